use Rattle.std.proofs.Common.{◌≡◌, ◌+◌, ◌≤◌, ◌++◌, List, length}
use Rattle.std.specs.Prelude.{vec_len, vec_capacity}
use Rattle.std.specs.Vec.Iter.{into_iter_items, into_iter_len}
use Rattle.hc_shard_run.specs.Lanes.{AreEnds, AreOwnLanes}
use Rattle.hc_shard_run.specs.Ran.{RanShard}
use Rattle.hc_shard_run.proofs.runs.end_all.Given as goal

-- what the rest leaves stands behind what was left so far
abbrev pub invariant-loop-lane : goal.invariant-loop-lane
invariant-loop-lane g l = record {
  ends : (more : List RanShard) → AreEnds (into_iter_items l.left) more → AreEnds l.fn.lanes.items (l.ran.items ++ more);
  own : AreOwnLanes (into_iter_items l.left);
  len : into_iter_len l.left ≡ length (into_iter_items l.left);
  room : vec_len l.ran + length (into_iter_items l.left) ≤ vec_capacity l.ran;
}

abbrev pub decreases-loop-lane : goal.decreases-loop-lane
decreases-loop-lane g l = into_iter_len l.left
