use Rattle.std.proofs.Common.{◌≡◌, ◌+◌, drop}
use Rattle.std.specs.Prelude.{option_map}
use Rattle.hc_memory.specs.Memory.{home_of}
use Rattle.hc_memory.proofs.pools.held_in.Given as goal

-- the pool is among the rest, if there is one
abbrev pub invariant-loop-i : goal.invariant-loop-i
invariant-loop-i g l = option_map (λ n. l.i + n) (home_of l.key (drop l.i l.pools)) ≡ home_of l.key l.pools
