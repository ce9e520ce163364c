use Rattle.std.proofs.Common.{ℕ, List, [], ◌∷◌, sym, subst}
use Rattle.hc_history.specs.Note as note
use Rattle.hc_history.specs.Note.{Linked}
use Rattle.hc_machine.specs.Cache.{tells, and_then}
use Rattle.hc_machine.specs.Waiting.{answer as answer_step}
use Rattle.hc_state.specs.wait.Commit.{clear_by, planted_by}
use Rattle.hc_state.specs.Whole.{Does, costs, for_notes}
use Rattle.hc_state.proofs.Joining.{does-both}
use Rattle.hc_state.proofs.state.State.serve_stored.Goals as goal

pub returns : goal.returns
returns g c =
    let old = c.args.self.now in
    let mid = c.plant.new.self in
    let standing = c.args.standing in
    let parked = c.args.parked.now in
    let planted : Does (planted_by standing parked old.cache) (costs 5 0 1 0) old mid =
    subst (λ (n : ℕ). Does (and_then (clear_by standing parked.key old.cache) (tells (Linked n ∷ []))) (costs 5 0 1 0) old mid) c.number.ensures
    (subst (λ (key : List ℕ). Does (and_then (clear_by standing key old.cache) (tells (Linked c.number.result ∷ []))) (costs 5 0 1 0) old mid) (sym c.requires.key) c.plant.ensures) in
    does-both (planted_by standing parked old.cache) (answer_step c.args.call note.Stored) (costs 5 0 1 0) (for_notes 1) old mid c.answer.new.self planted c.answer.ensures
