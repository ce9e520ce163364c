use Rattle.std.proofs.Common.{◌≡◌, ◌++◌, map, drop}
use Rattle.std.specs.List.{concat}
use Rattle.hc_log.specs.Text.{pool_line}
use Rattle.hc_log.proofs.text.add_pools.Given as goal

-- what was written, and the lines from here on, are all of them
abbrev pub invariant-pools : goal.invariant-pools
invariant-pools l = l.out.items ++ concat (map pool_line (drop l.size-index l.pools)) ≡ l.fn.out.items ++ concat (map pool_line l.pools)
