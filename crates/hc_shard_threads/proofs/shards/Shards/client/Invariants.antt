use Rattle.std.proofs.Common.{◌≡◌, map, length}
use Rattle.hc_shard_threads.specs.Rows.{forgotten}
use Rattle.hc_shard_threads.proofs.shards.Shards.client.Given as goal

-- a new client of each shard so far
abbrev pub invariant-loop-lane : goal.invariant-loop-lane
invariant-loop-lane g l = record {
  count : length l.clients.items ≡ l.lane-index;
  new : map forgotten l.clients.items ≡ l.clients.items;
}
