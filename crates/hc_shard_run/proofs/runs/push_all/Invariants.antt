use Rattle.std.proofs.Common.{◌≡◌, ◌≤◌, [], length}
use Rattle.std.specs.Prelude.{vec_len, vec_capacity}
use Rattle.hc_engines.specs.Engine.{Pages}
use Rattle.hc_shard_run.specs.Lanes.{AreLanes, failures_of}
use Rattle.hc_shard_run.proofs.runs.push_all.Given as goal

-- as many are there as were counted, and none has made a step
abbrev pub invariant-loop-shard : goal.invariant-loop-shard
invariant-loop-shard g l = record {
  lanes : (held : Pages) → AreLanes l.sharded held [] l.lanes.items;
  many : length l.lanes.items ≡ l.shard;
  failures : failures_of l.lanes.items ≡ 0;
  len : vec_len l.lanes ≡ l.shard;
  room : l.sharded.shards ≤ vec_capacity l.lanes;
}
