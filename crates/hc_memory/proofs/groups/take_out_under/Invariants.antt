use Rattle.std.proofs.Common.{◌≡◌, ℕ, List, true, false}
use Rattle.hc_memory.specs.Clean.{has_key, is_under}
use Rattle.hc_memory.proofs.groups.take_out_under.Given as goal

-- the keys that aren't under the hash are still there
abbrev pub invariant-loop : goal.invariant-loop
invariant-loop g l = (k : List ℕ) → is_under l.bits l.hash l.but k ≡ false → has_key k l.initial.keys.items ≡ true → has_key k l.keys.items ≡ true
