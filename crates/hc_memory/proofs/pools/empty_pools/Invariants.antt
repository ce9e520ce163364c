use Rattle.std.proofs.Common.{◌≡◌, ◌≤◌, ◌++◌, drop, map, length, vec_len, vec_capacity}
use Rattle.hc_memory.specs.Memory.{empty_pool}
use Rattle.hc_memory.proofs.pools.empty_pools.Given as goal

-- with those of the sizes that are left, they are all pools
abbrev pub invariant-loop-size : goal.invariant-loop-size
invariant-loop-size g l = record {
  all : l.pools.items ++ map empty_pool (drop l.size-index l.sizes) ≡ map empty_pool l.sizes;
  len : vec_len l.pools ≡ l.size-index;
  room : length l.sizes ≤ vec_capacity l.pools;
}
