use Rattle.std.proofs.Common.{◌≡◌, length}
use Rattle.example_service.proofs.shards.parts_of.Given as goal

-- one for each shard so far
abbrev pub invariant-loop-shard : goal.invariant-loop-shard
invariant-loop-shard l = length l.ports.items ≡ l.shard
