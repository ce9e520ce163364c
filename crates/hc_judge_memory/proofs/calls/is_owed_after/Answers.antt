use Rattle.std.proofs.Common.{◌≡◌, ◌∙◌, sym}
use Rattle.hc_history.specs.Note.{End}
use Rattle.hc_judge_memory.proofs.Filtered.{owed-gone, owed-stays}
use Rattle.hc_judge_memory.proofs.calls.is_owed_after.Goals as goal

pub returns-in-End : goal.returns-in-End
returns-in-End g c = λ older was.
    let at : c.args.note.now ≡ End c.in-End.ended = cc in
    rw at (sym (owed-gone older c.in-End.ended c.args.call c.if-ended-call.true))

pub returns-in_default-2 : goal.returns-in_default-2
returns-in_default-2 g c = λ older was.
    let at : c.args.note.now ≡ End c.in-End.ended = cc in
    rw at (was ∙ sym (owed-stays older c.in-End.ended c.args.call c.if-ended-call.false))
