use Rattle.std.proofs.Common.{◌≡◌, rules, sym}
use Rattle.hc_history.specs.Note.{Begin, Did}
use Rattle.hc_history.specs.Seen.{op_of, reply_of}
use Rattle.hc_judge_memory.proofs.Filtered.{op-gone, op-passed, op-stays}
use Rattle.hc_judge_memory.proofs.calls.open_op_by.Goals as goal
use Rattle.hc_judge_memory.proofs.calls.open_op_by.Goals.{in_default-via-in-Begin+else-begun-call, in_default-via-in-Did+else-done-call, in_default-via-in_default}

pub returns-in-Did : goal.returns-in-Did
returns-in-Did g c = λ older.
    let at : c.args.note.now ≡ Did c.in-Did.done (reply_of c.in-Did.reply) = cc in
    rw at (sym (op-gone older c.in-Did.done c.args.call (reply_of c.in-Did.reply) c.if-done-call.true))

pub returns-in_default : goal.returns-in_default
returns-in_default g c = λ older. elim c.in_default.branch [
  | in_default-via-in-Begin+else-begun-call w ↦
      let at : c.args.note.now ≡ Begin w.in-Begin.begun w.in-Begin.client (op_of w.in-Begin.op) = cc in
      rw at (sym (op-passed older w.in-Begin.begun w.in-Begin.client c.args.call (op_of w.in-Begin.op) w.if-begun-call.false))
  | in_default-via-in-Did+else-done-call w ↦
      let at : c.args.note.now ≡ Did w.in-Did.done (reply_of w.in-Did.reply) = cc in
      rw at (sym (op-stays older w.in-Did.done c.args.call (reply_of w.in-Did.reply) w.if-done-call.false))
  | in_default-via-in_default w ↦ search rules
]
