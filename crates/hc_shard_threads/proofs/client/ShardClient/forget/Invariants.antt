use Rattle.std.proofs.Common.{◌≡◌, ◌++◌, take, drop, map}
use Rattle.hc_shard_threads.specs.Rows.{forgotten}
use Rattle.hc_shard_threads.proofs.client.ShardClient.forget.Given as goal

-- those so far are forgotten already
abbrev pub invariant-loop-client : goal.invariant-loop-client
invariant-loop-client g l = take l.client-index l.client-items ++ map forgotten (drop l.client-index l.client-items) ≡ map forgotten l.fn.self
