use Rattle.hc_state.proofs.set.Supersedes.{Plans, plan-keys, plan-absent, plan-room, can-put, superseded}
use Rattle.hc_state.proofs.state.State.supersede.Goals as goal

pub send_all-requires-clause-keys : goal.send_all-requires-clause-keys
send_all-requires-clause-keys g c =
    let more = c.in_ok-copy.field-0 in
    let plans : Plans c.args.pool c.args.key c.args.want c.args.plan more c.args.self.now = record {
      structured = c.requires.structured;
      brief = c.requires.brief;
      fits = c.requires.fits;
      want_is = c.requires.want;
      planned = c.requires.planned;
      more_is = c.in_ok-copy.ensures;
    } in
    plan-keys c.args.pool c.args.key c.args.want c.args.plan more c.args.self.now plans

pub send_all-requires-clause-absent : goal.send_all-requires-clause-absent
send_all-requires-clause-absent g c =
    let more = c.in_ok-copy.field-0 in
    let plans : Plans c.args.pool c.args.key c.args.want c.args.plan more c.args.self.now = record {
      structured = c.requires.structured;
      brief = c.requires.brief;
      fits = c.requires.fits;
      want_is = c.requires.want;
      planned = c.requires.planned;
      more_is = c.in_ok-copy.ensures;
    } in
    plan-absent c.args.pool c.args.key c.args.want c.args.plan more c.args.self.now plans c.evicted_never_waits.ensures

pub send_all-requires-clause-room : goal.send_all-requires-clause-room
send_all-requires-clause-room g c =
    let more = c.in_ok-copy.field-0 in
    let plans : Plans c.args.pool c.args.key c.args.want c.args.plan more c.args.self.now = record {
      structured = c.requires.structured;
      brief = c.requires.brief;
      fits = c.requires.fits;
      want_is = c.requires.want;
      planned = c.requires.planned;
      more_is = c.in_ok-copy.ensures;
    } in
    plan-room c.args.pool c.args.key c.args.want c.args.plan more c.args.self.now plans

pub put_over-requires : goal.put_over-requires
put_over-requires g c =
    let more = c.in_ok-copy.field-0 in
    let plans : Plans c.args.pool c.args.key c.args.want c.args.plan more c.args.self.now = record {
      structured = c.requires.structured;
      brief = c.requires.brief;
      fits = c.requires.fits;
      want_is = c.requires.want;
      planned = c.requires.planned;
      more_is = c.in_ok-copy.ensures;
    } in
    let can = can-put c.args.pool c.args.key c.args.want c.args.plan more c.args.self.now plans c.send_all.new.self c.send_all.ensures in
    record {
      copy = c.in_ok-copy.ensures.copy;
      number = can.number;
      pool = can.within;
      room = can.room;
      none = can.none;
      outdates = can.outdates;
      stones = can.stones;
      notes = can.notes;
    }

pub returns-clause-ok : goal.returns-clause-ok
returns-clause-ok g c =
    let more = c.in_ok-copy.field-0 in
    let plans : Plans c.args.pool c.args.key c.args.want c.args.plan more c.args.self.now = record {
      structured = c.requires.structured;
      brief = c.requires.brief;
      fits = c.requires.fits;
      want_is = c.requires.want;
      planned = c.requires.planned;
      more_is = c.in_ok-copy.ensures;
    } in
    let over = superseded c.args.pool c.args.key c.args.want c.args.plan more c.args.self.now plans c.send_all.new.self c.send_all.ensures c.is_sound.ensures c.args.expiry c.put_over.new.self c.put_over.result c.put_over.ensures.ok c.put_over.ensures.err in
    over.ok

pub returns-clause-err : goal.returns-clause-err
returns-clause-err g c =
    let more = c.in_ok-copy.field-0 in
    let plans : Plans c.args.pool c.args.key c.args.want c.args.plan more c.args.self.now = record {
      structured = c.requires.structured;
      brief = c.requires.brief;
      fits = c.requires.fits;
      want_is = c.requires.want;
      planned = c.requires.planned;
      more_is = c.in_ok-copy.ensures;
    } in
    let over = superseded c.args.pool c.args.key c.args.want c.args.plan more c.args.self.now plans c.send_all.new.self c.send_all.ensures c.is_sound.ensures c.args.expiry c.put_over.new.self c.put_over.result c.put_over.ensures.ok c.put_over.ensures.err in
    over.err
