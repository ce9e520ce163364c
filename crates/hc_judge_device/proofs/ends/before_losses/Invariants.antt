use Rattle.std.proofs.Common.{◌≡◌, ◌≤◌, [], take}
use Rattle.hc_history.specs.Lawful.{past}
use Rattle.hc_judge_device.specs.Reading as spec
use Rattle.hc_judge_device.proofs.ends.before_losses.Given as goal

abbrev pub invariant-loop-place : goal.invariant-loop-place
invariant-loop-place g l = record { within : l.end ≤ l.place; kept : past [] (take l.end l.notes) ≡ spec.before_losses (past [] (take l.place l.notes)) }
