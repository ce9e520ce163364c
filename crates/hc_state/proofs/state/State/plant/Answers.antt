use Rattle.std.proofs.Common.{[], ◌∷◌}
use Rattle.hc_history.specs.Note.{Linked}
use Rattle.hc_machine.specs.Cache.{tells}
use Rattle.hc_state.specs.wait.Commit.{clear_by}
use Rattle.hc_state.specs.Whole.{costs, for_notes}
use Rattle.hc_state.proofs.Joining.{does-both}
use Rattle.hc_state.proofs.state.State.plant.Goals as goal

pub returns : goal.returns
returns g c =
    let old = c.args.self.now in
    does-both (clear_by c.args.old c.args.key.now old.cache) (tells (Linked c.args.number ∷ [])) (costs 4 0 1 0) (for_notes 1) old c.clear.new.self c.tell_linked.new.self c.clear.ensures c.tell_linked.ensures
