use Rattle.std.proofs.Common.{◌+◌, ◌∷◌, ◌++◌, drop, ap, sym, ◌∙◌, add-one, append_assoc}
use Rattle.std.proofs.Math.Seq.{drop-cons}
use Rattle.hc_trace_text.specs.Texts.{loss_text, losses_text}
use Rattle.hc_trace_text.proofs.texts.add_losses.Goals as goal

pub notes-preserved : goal.notes-preserved
notes-preserved c =
    let notes = c.args.notes.now in
    let at = c.notes.note-index in
    let note = c.note-item.result in
    let rest = drop (at + 1) notes in
    let parted = drop-cons notes at note c.notes-test.true ∙ (λ i. sym c.note-item.is i ∷ drop (sym (add-one at) i) notes) in
    (λ i. c.in_ok-add_loss.ensures i ++ losses_text rest)
    ∙ append_assoc c.notes.out.items (loss_text note) (losses_text rest)
    ∙ ap (λ ns. c.notes.out.items ++ losses_text ns) (sym parted)
    ∙ c.notes.invariant
