use Rattle.std.proofs.Common.{[], take}
use Rattle.std.specs.Ordering.{nat_cmp}
use Rattle.std.specs.BTreeMap.{get}
use Rattle.hc_history.specs.Honest.{HonestAfter}
use Rattle.hc_history.specs.Lawful.{past}
use Rattle.hc_judge_memory.specs.Lies.{AreKnown}
use Rattle.hc_judge_memory.proofs.lies.first_in_one_walk.Given as goal

-- each read so far is true, and the map has what was written so far
abbrev pub invariant-loop-place : goal.invariant-loop-place
invariant-loop-place g l = record {
  honest : HonestAfter [] (take l.place l.log);
  known : AreKnown (get nat_cmp l.pages) (past [] (take l.place l.log));
}
