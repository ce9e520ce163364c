use Rattle.std.proofs.Common.{◌≡◌, drop}
use Rattle.hc_types.specs.FlashEntry.{entries_of}
use Rattle.hc_bucket.specs.Bloom.{has_bit}
use Rattle.hc_judge_device.proofs.buckets.has_bit.Given as goal

abbrev pub invariant-loop-entry : goal.invariant-loop-entry
invariant-loop-entry g l = has_bit (entries_of (drop l.entry-index l.entries)) l.bit ≡ has_bit (entries_of l.entries) l.bit
