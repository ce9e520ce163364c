use Rattle.std.proofs.Common.{arith}
use Rattle.hc_history.specs.Seen.{reply_of}
use Rattle.hc_state.specs.wait.Commit.{clear_by}
use Rattle.hc_state.specs.Whole.{costs}
use Rattle.hc_state.proofs.wait.Ends.{can-then, many-then}
use Rattle.hc_state.proofs.store.Planted.{cleared-waiters, cleared-charges, unstored-as}
use Rattle.hc_state.proofs.state.State.clear_and_serve.Goals as goal

pub reply_and_serve-requires : goal.reply_and_serve-requires
reply_and_serve-requires g c =
    let key = c.args.key.now in
    let old = c.args.self.now in
    let mid = c.clear.new.self in
    let told = clear_by c.args.standing key old.cache in
    let does = c.clear.ensures in
    let waiters = cleared-waiters c.args.standing key key old.cache in
    let many = many-then key told (costs 4 0 1 0) old mid does waiters in
    record {
      can = can-then key c.args.courses.items told (costs 4 0 1 0) old mid does waiters (cleared-charges c.args.standing key old.cache) c.requires.can;
      stones = omega (arith, many, does.room.stones, c.requires.stones);
      room = omega (arith, many, does.room.notes, c.requires.room);
    }

pub returns : goal.returns
returns g c =
    unstored-as c.args.standing (reply_of c.args.reply) c.args.key.now c.args.courses.items c.args.self.now c.clear.new.self c.reply_and_serve.new.self c.clear.ensures c.reply_and_serve.ensures
