use Rattle.std.proofs.Common.{◌≡◌, ◌∙◌, sym}
use Rattle.hc_history.specs.Note.{Unqueued}
use Rattle.hc_history.specs.Books as books
use Rattle.hc_judge_memory.proofs.Filtered.{key-gone, key-stays}
use Rattle.hc_judge_memory.proofs.queue.is_waiting_after.Goals as goal

pub returns-in-Unqueued : goal.returns-in-Unqueued
returns-in-Unqueued g c = λ older was.
    let at : c.args.note.now ≡ Unqueued c.in-Unqueued.taken = cc in
    rw at (sym (key-gone (books.waiting older) c.in-Unqueued.taken c.args.key.now (sym c.if-eq-2.ensures)))

pub returns-in_default-2 : goal.returns-in_default-2
returns-in_default-2 g c = λ older was.
    let at : c.args.note.now ≡ Unqueued c.in-Unqueued.taken = cc in
    rw at (was ∙ sym (key-stays (books.waiting older) c.in-Unqueued.taken c.args.key.now (sym c.if-eq-2.ensures)))
