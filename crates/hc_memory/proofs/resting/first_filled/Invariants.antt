use Rattle.std.proofs.Common.{◌≡◌, ◌+◌, drop}
use Rattle.std.specs.Prelude.{option_map}
use Rattle.hc_memory.specs.Resting.{first_pool}
use Rattle.hc_memory.proofs.resting.first_filled.Given as goal

-- the pool is among the rest, if there is one
abbrev pub invariant-loop-i : goal.invariant-loop-i
invariant-loop-i g l = option_map (λ n. l.i + n) (first_pool (drop l.i l.pools)) ≡ first_pool l.pools
