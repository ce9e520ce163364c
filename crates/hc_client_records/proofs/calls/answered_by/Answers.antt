use Rattle.std.proofs.Common.{◌≡◌, rules}
use Rattle.hc_history.specs.Note.{End}
use Rattle.hc_client_records.proofs.Owing.{answer-gone, answer-stays}
use Rattle.hc_client_records.proofs.calls.answered_by.Goals as goal
use Rattle.hc_client_records.proofs.calls.answered_by.Goals.{in_default-via-in-Did+else-done-call, in_default-via-in-End+else-ended-call, in_default-via-in_default}

pub returns-in-End : goal.returns-in-End
returns-in-End c = λ older.
    let at : c.args.note.now ≡ End c.in-End.ended = cc in
    rw at (answer-gone older c.in-End.ended c.args.call c.if-ended-call.true)

pub returns-in_default : goal.returns-in_default
returns-in_default c = λ older. elim c.in_default.branch [
  | in_default-via-in-Did+else-done-call w ↦ search rules
  | in_default-via-in-End+else-ended-call w ↦
      let at : c.args.note.now ≡ End w.in-End.ended = cc in
      rw at (answer-stays older w.in-End.ended c.args.call w.if-ended-call.false)
  | in_default-via-in_default w ↦ search rules
]
