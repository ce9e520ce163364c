use Rattle.std.proofs.Common.{arith, [], ◌∷◌}
use Rattle.hc_history.specs.Note.{Linked}
use Rattle.hc_machine.specs.Cache.{tells, and_then}
use Rattle.hc_state.specs.wait.Commit.{clear_by}
use Rattle.hc_state.specs.Whole.{costs}
use Rattle.hc_state.proofs.wait.Ends.{can-then, many-then}
use Rattle.hc_state.proofs.store.Planted.{cleared-waiters, cleared-charges, stored-as}
use Rattle.hc_state.proofs.state.State.plant_and_serve.Goals as goal

pub reply_and_serve-requires : goal.reply_and_serve-requires
reply_and_serve-requires g c =
    let key = c.args.key.now in
    let old = c.args.self.now in
    let mid = c.plant.new.self in
    let told = and_then (clear_by c.args.standing key old.cache) (tells (Linked c.args.number ∷ [])) in
    let does = c.plant.ensures in
    let waiters = cleared-waiters c.args.standing key key old.cache in
    let many = many-then key told (costs 5 0 1 0) old mid does waiters in
    record {
      can = can-then key c.args.courses.items told (costs 5 0 1 0) old mid does waiters (cleared-charges c.args.standing key old.cache) c.requires.can;
      stones = omega (arith, many, does.room.stones, c.requires.stones);
      room = omega (arith, many, does.room.notes, c.requires.room);
    }

pub returns : goal.returns
returns g c =
    stored-as c.args.standing c.args.key.now c.args.number c.args.courses.items c.args.self.now c.plant.new.self c.reply_and_serve.new.self c.plant.ensures c.reply_and_serve.ensures
