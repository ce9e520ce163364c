use Rattle.std.proofs.Common.{◌≡◌, ◌++◌, length}
use Rattle.hc_types.specs.FlashEntry.{entries_of}
use Rattle.hc_bucket.proofs.decoding.copies_of.Given as goal

abbrev pub invariant-loop-placed : goal.invariant-loop-placed
invariant-loop-placed g l = entries_of l.copies.items ++ l.entries ≡ l.fn.entries

abbrev pub decreases-loop-placed : goal.decreases-loop-placed
decreases-loop-placed g l = length l.entries
