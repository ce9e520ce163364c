use Rattle.std.proofs.Common.{◌≡◌, ◌∙◌, sym}
use Rattle.hc_history.specs.Note.{Raised}
use Rattle.hc_history.specs.Books as books
use Rattle.hc_judge_memory.proofs.Filtered.{key-gone, key-stays}
use Rattle.hc_judge_memory.proofs.queue.is_buried_after.Goals as goal

pub returns-in-Raised : goal.returns-in-Raised
returns-in-Raised g c = λ older was.
    let at : c.args.note.now ≡ Raised c.in-Raised.raised = cc in
    rw at (sym (key-gone (books.buried older) c.in-Raised.raised c.args.key.now (sym c.if-eq-2.ensures)))

pub returns-in_default-2 : goal.returns-in_default-2
returns-in_default-2 g c = λ older was.
    let at : c.args.note.now ≡ Raised c.in-Raised.raised = cc in
    rw at (was ∙ sym (key-stays (books.buried older) c.in-Raised.raised c.args.key.now (sym c.if-eq-2.ensures)))
