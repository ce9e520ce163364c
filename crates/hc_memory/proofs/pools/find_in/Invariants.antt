use Rattle.std.proofs.Common.{◌≡◌, ◌+◌, drop}
use Rattle.std.specs.Prelude.{option_map}
use Rattle.hc_memory.specs.Memory.{home_of}
use Rattle.hc_memory.proofs.pools.find_in.Given as goal

-- nothing has changed, and the pool is among the rest, if there is one
abbrev pub invariant-loop-i : goal.invariant-loop-i
invariant-loop-i g l = record {
  same : l.pools.items ≡ l.initial.pools.items;
  rest : option_map (λ n. l.i + n) (home_of l.key (drop l.i l.initial.pools.items)) ≡ home_of l.key l.initial.pools.items;
  buffer : l.buffer ≡ l.initial.buffer;
}
