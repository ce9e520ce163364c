use Rattle.std.proofs.Common.{◌≡◌, [], length}
use Rattle.hc_history.specs.Lawful.{past}
use Rattle.hc_client_records.specs.Records as records
use Rattle.hc_client_records.proofs.calls.asked.Given as goal

-- the notes that were passed say nothing of it
abbrev pub invariant-loop-note : goal.invariant-loop-note
invariant-loop-note l = records.asked l.call (past [] l.left) ≡ records.asked l.call (past [] l.before)

abbrev pub decreases-loop-note : goal.decreases-loop-note
decreases-loop-note l = length l.left
