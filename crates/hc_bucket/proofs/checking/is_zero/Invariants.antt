use Rattle.std.proofs.Common.{◌≡◌, bit_or, drop}
use Rattle.std.specs.Prelude.{fold}
use Rattle.hc_bucket.proofs.checking.is_zero.Given as goal

-- going on over the bytes that are left joins them all
abbrev pub invariant-loop-byte : goal.invariant-loop-byte
invariant-loop-byte l = fold bit_or l.seen (drop l.byte-index l.bytes) ≡ fold bit_or 0 l.bytes
