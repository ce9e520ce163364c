use Rattle.std.proofs.Common.{◌≡◌, drop}
use Rattle.std.specs.Prelude.{fold}
use Rattle.hc_types.specs.Fnv.{fnv_1a, fnv_step}
use Rattle.hc_types.proofs.key.hash_of.Given as goal

-- going on over the bytes that are left gives the hash
abbrev pub invariant-loop-byte : goal.invariant-loop-byte
invariant-loop-byte l = fold fnv_step l.hash (drop l.byte-index l.bytes) ≡ fnv_1a l.bytes
