use Rattle.std.proofs.Common.{[], ◌∷◌, ap, ◌∙◌}
use Rattle.hc_types.specs.Loss as loss
use Rattle.hc_memory.specs.Item.{Item}
use Rattle.hc_history.specs.Note.{Lose}
use Rattle.hc_history.specs.Told.{told_more}
use Rattle.hc_machine.specs.items.Allocating.{cause_for}
use Rattle.hc_state.proofs.allocate.evict.forgotten.Goals as goal

pub returns-clause-told : goal.returns-clause-told
returns-clause-told g c =
    let log = g.N.Listener.told c.args.notes.now in
    let is = c.item.inside in
    let cause = cause_for c.args.now c.args.pool c.args.want c.args.item in
    c.tell_loss.ensures.told
    ∙ (λ i. told_more log (Lose (loss.Key is.key) (c.cause_for-cause.ensures i) ∷ []))
    ∙ ap (λ (x : Item). told_more log (Lose (loss.Key x.key) cause ∷ [])) c.item.view_is
