use Rattle.std.proofs.Common.{[], take}
use Rattle.hc_history.specs.Honest.{HonestAfter}
use Rattle.hc_judge_memory.proofs.lies.first_lie.Given as goal

-- each read so far is true
abbrev pub invariant-loop-place : goal.invariant-loop-place
invariant-loop-place g l = HonestAfter [] (take l.place l.log)
