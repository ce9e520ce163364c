use Rattle.std.proofs.Common.{◌≡◌, drop}
use Rattle.hc_types.specs.FlashEntry.{entries_of}
use Rattle.hc_history.specs.Pages.{has_key}
use Rattle.hc_judge_device.proofs.buckets.has_key.Given as goal

abbrev pub invariant-loop-entry : goal.invariant-loop-entry
invariant-loop-entry g l = has_key l.key (entries_of (drop l.entry-index l.entries)) ≡ has_key l.key (entries_of l.entries)
