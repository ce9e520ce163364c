use Rattle.std.proofs.Common.{◌≡◌, drop, length}
use Rattle.std.specs.Prelude.{nat_le}
use Rattle.hc_types.specs.FlashEntry.{entries_of}
use Rattle.hc_bucket.specs.Page.{entries_bytes}
use Rattle.hc_bucket.specs.Putting.{entries_without}
use Rattle.hc_judge_device.proofs.pushing.fit.Given as goal

abbrev pub invariant-loop-entry : goal.invariant-loop-entry
invariant-loop-entry g l = nat_le (length (entries_bytes (entries_without l.but (entries_of (drop l.entry-index l.entries))))) l.left ≡ nat_le (length (entries_bytes (entries_without l.but (entries_of l.entries)))) l.fn.room
