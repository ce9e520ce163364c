use Rattle.std.proofs.Common.{◌≡◌, [], length}
use Rattle.hc_history.specs.Lawful.{past}
use Rattle.hc_judge_memory.specs.Calls as spec
use Rattle.hc_judge_memory.proofs.calls.open_op.Given as goal

-- the notes that were passed say nothing of it
abbrev pub invariant-loop-note : goal.invariant-loop-note
invariant-loop-note g l = spec.open_op l.call (past [] l.before) ≡ spec.open_op l.call (past [] l.notes)

abbrev pub decreases-loop-note : goal.decreases-loop-note
decreases-loop-note g l = length l.before
