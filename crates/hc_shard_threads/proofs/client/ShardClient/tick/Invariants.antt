use Rattle.std.proofs.Common.{◌≡◌, ◌≤◌, length}
use Rattle.hc_shard_threads.specs.Rows.{ticked_in}
use Rattle.hc_shard_threads.proofs.client.ShardClient.tick.Given as goal

-- the clocks of the shards so far were moved
abbrev pub invariant-loop-at : goal.invariant-loop-at
invariant-loop-at g l = record {
  rows : l.self-inside.clients.items ≡ ticked_in l.moment l.at l.fn.self;
  later : l.moment ≤ l.earliest;
  all : length l.self-inside.clients.items ≡ length l.fn.self;
}
