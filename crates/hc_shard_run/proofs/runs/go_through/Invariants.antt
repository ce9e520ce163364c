use Rattle.std.proofs.Common.{◌≡◌, ◌+◌, ◌≤◌, ◌++◌, length, take, drop}
use Rattle.std.specs.Prelude.{map, vec_len, vec_capacity}
use Rattle.hc_shard_run.specs.Lanes.{AreLanes, Others, failures_of}
use Rattle.hc_shard_run.specs.Steps.{refusal_of}
use Rattle.hc_shard_run.proofs.runs.go_through.Given as goal

-- each shard has made its own of the steps so far
abbrev pub invariant-loop-one : goal.invariant-loop-one
invariant-loop-one g l = record {
  lanes : AreLanes l.sharded (g.D.Flash.held l.device) (take l.one-index l.steps) l.lanes.items;
  many : length l.lanes.items ≡ l.sharded.shards;
  others : Others l.sharded (g.D.Flash.held l.fn.device) (g.D.Flash.held l.device);
  counted : g.D.Flash.failed l.device + failures_of l.fn.lanes.items ≤ g.D.Flash.failed l.fn.device + failures_of l.lanes.items;
  refused : l.refusals.items ++ map (refusal_of l.sharded.shards) (drop l.one-index l.steps) ≡ map (refusal_of l.sharded.shards) l.steps;
  len : vec_len l.refusals ≡ l.one-index;
  room : length l.steps ≤ vec_capacity l.refusals;
}
