use Rattle.std.proofs.Common.{[], ◌∙◌}
use Rattle.hc_history.specs.Lawful.{past}
use Rattle.hc_judge_memory.specs.Calls as spec
use Rattle.hc_legal.proofs.Past.{book-last}
use Rattle.hc_judge_memory.proofs.calls.open_op.Goals as goal

pub returns-in-Some-open_op_by : goal.returns-in-Some-open_op_by
returns-in-Some-open_op_by g c = c.in-Some-open_op_by.ensures (past [] c.in-Some.older.now) ∙ book-last (spec.open_op c.args.call) c.loop-note.before.now c.in-Some.older.now c.in-Some.note.now c.in-Some.ensures.cases.0 ∙ c.loop-note.invariant

pub loop-note-preserved : goal.loop-note-preserved
loop-note-preserved g c = c.in_default-open_op_by.ensures (past [] c.in-Some.older.now) ∙ book-last (spec.open_op c.args.call) c.loop-note.before.now c.in-Some.older.now c.in-Some.note.now c.in-Some.ensures.cases.0 ∙ c.loop-note.invariant
