use Rattle.std.proofs.Common.{◌≡◌, ◌++◌, drop}
use Rattle.std.specs.Prelude.{map}
use Rattle.hc_shards.specs.Shards as spec
use Rattle.hc_shards.proofs.sharded.shares_of.Given as goal

-- the shares so far, and those of the pools that are left
abbrev pub invariant-loop-pool : goal.invariant-loop-pool
invariant-loop-pool g l = l.shares.items ++ map (spec.share_of_pool l.shards) (drop l.pool-index l.pools) ≡ map (spec.share_of_pool l.shards) l.pools
