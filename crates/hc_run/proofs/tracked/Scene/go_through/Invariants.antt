use Rattle.std.proofs.Common.{◌≡◌, length}
use Rattle.hc_run.proofs.tracked.Scene.go_through.Given as goal

-- each step so far was answered
abbrev pub invariant-loop-i : goal.invariant-loop-i
invariant-loop-i g l = record { made : length l.answers.items ≡ l.i }
