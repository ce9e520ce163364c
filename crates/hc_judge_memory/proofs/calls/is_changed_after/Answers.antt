use Rattle.std.proofs.Common.{◌≡◌, ◌∙◌, sym}
use Rattle.hc_history.specs.Note.{Did}
use Rattle.hc_history.specs.Seen.{reply_of}
use Rattle.hc_judge_memory.proofs.Filtered.{changed-gone, changed-stays}
use Rattle.hc_judge_memory.proofs.calls.is_changed_after.Goals as goal

pub returns-in-Did : goal.returns-in-Did
returns-in-Did g c = λ older was.
    let at : c.args.note.now ≡ Did c.in-Did.done (reply_of c.in-Did.reply) = cc in
    rw at (sym (changed-gone older c.in-Did.done c.args.call (reply_of c.in-Did.reply) (reply_of c.args.reply.now) c.args.key.now c.if-done-call.true))

pub returns-in_default-2 : goal.returns-in_default-2
returns-in_default-2 g c = λ older was.
    let at : c.args.note.now ≡ Did c.in-Did.done (reply_of c.in-Did.reply) = cc in
    rw at (was ∙ sym (changed-stays older c.in-Did.done c.args.call (reply_of c.in-Did.reply) (reply_of c.args.reply.now) c.args.key.now c.if-done-call.false))
