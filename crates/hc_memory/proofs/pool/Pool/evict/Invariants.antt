use Rattle.std.proofs.Common.{◌≡◌, ◌+◌, ◌++◌, take, drop, vec_len, vec_capacity}
use Rattle.hc_memory.proofs.pool.Pool.evict.Given as goal

-- the first so many are gone
abbrev pub invariant-loop : goal.invariant-loop
invariant-loop g l = record {
  left : l.self ≡ record { size = l.initial.self.size; items = drop l.counter l.initial.self.items };
  gone : l.victims.items ≡ l.initial.victims.items ++ take l.counter l.initial.self.items;
  len : vec_len l.victims ≡ vec_len l.initial.victims + l.counter;
  room : vec_capacity l.victims ≡ vec_capacity l.initial.victims;
}
