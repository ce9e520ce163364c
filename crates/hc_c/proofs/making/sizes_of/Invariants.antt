use Rattle.std.proofs.Common.{◌≡◌, ◌++◌, map, drop}
use Rattle.hc_c.specs.Making.{size_of}
use Rattle.hc_c.proofs.making.sizes_of.Given as goal

abbrev pub invariant-loop-pool : goal.invariant-loop-pool
invariant-loop-pool l = l.sizes.items ++ map size_of (drop l.pool-index l.pools) ≡ map size_of l.pools
