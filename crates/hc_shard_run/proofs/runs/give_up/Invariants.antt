use Rattle.std.proofs.Common.{◌≡◌, length}
use Rattle.std.specs.Vec.Iter.{into_iter_items, into_iter_len}
use Rattle.hc_shard_run.specs.Lanes.{AreOwnLanes}
use Rattle.hc_shard_run.proofs.runs.give_up.Given as goal

abbrev pub invariant-loop-lane : goal.invariant-loop-lane
invariant-loop-lane g l = record {
  own : AreOwnLanes (into_iter_items l.left);
  len : into_iter_len l.left ≡ length (into_iter_items l.left);
}

abbrev pub decreases-loop-lane : goal.decreases-loop-lane
decreases-loop-lane g l = into_iter_len l.left
