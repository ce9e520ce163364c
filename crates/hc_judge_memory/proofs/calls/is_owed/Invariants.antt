use Rattle.std.proofs.Common.{◌≡◌, [], take}
use Rattle.hc_history.specs.Lawful.{past}
use Rattle.hc_judge_memory.specs.Calls as spec
use Rattle.hc_judge_memory.proofs.calls.is_owed.Given as goal

abbrev pub invariant-loop-note : goal.invariant-loop-note
invariant-loop-note g l = l.owed ≡ spec.is_owed (past [] (take l.note-index l.notes)) l.call
