use Rattle.hc_state.proofs.fill.Ways.{some-of, ended-there, over-by}
use Rattle.hc_state.proofs.state.State.end_fill.Goals as goal

pub waiters_of-requires : goal.waiters_of-requires
waiters_of-requires g c =
    let k = some-of c.args.ending.key c.requires.of_key in
    record { ended = ended-there c.args.way c.args.ending k.0 c.end_by-taken.result c.args.self.now c.end_by-taken.new.self k.1 c.requires.ends c.end_by-taken.ensures }

pub returns : goal.returns
returns g c key key_is = over-by c.args.way c.args.ending key c.end_by-taken.result c.args.self.now c.end_by-taken.new.self key_is c.waiters_of.result.items c.waiters_of.ensures c.requires.ends c.end_by-taken.ensures
