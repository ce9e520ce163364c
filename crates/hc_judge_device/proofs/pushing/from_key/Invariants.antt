use Rattle.std.proofs.Common.{◌≡◌, drop}
use Rattle.hc_types.specs.FlashEntry.{entries_of}
use Rattle.hc_bucket.specs.Putting as spec
use Rattle.hc_judge_device.proofs.pushing.from_key.Given as goal

abbrev pub invariant-loop-place : goal.invariant-loop-place
invariant-loop-place g l = spec.from_key l.key (entries_of (drop l.place l.entries)) ≡ spec.from_key l.key (entries_of l.entries)
