use Rattle.std.proofs.Common.{◌≡◌, ◌≢◌, ◌<◌, ℕ, Some, false, slice_get}
use Rattle.hc_memory.specs.Pool.{Pool}
use Rattle.hc_memory.specs.Memory.{has}
use Rattle.hc_memory.proofs.links.home_beside.Given as goal

-- no other pool before has the key's item
abbrev pub invariant-loop-i : goal.invariant-loop-i
invariant-loop-i g l = (j : ℕ) (pool : Pool) → j < l.i → j ≢ l.own → slice_get l.pools j ≡ Some pool → has l.key pool ≡ false
