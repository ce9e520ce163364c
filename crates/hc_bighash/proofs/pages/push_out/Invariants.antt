use Rattle.std.proofs.Common.{length}
use Rattle.hc_types.specs.FlashEntry.{entry_of}
use Rattle.hc_bighash.proofs.Looping.{Pushing}
use Rattle.hc_bighash.proofs.pages.push_out.Given as goal

abbrev pub invariant-loop-used : goal.invariant-loop-used
invariant-loop-used g l = Pushing l.page_size (entry_of l.entry) l.fn.entries l.entries l.used l.losses.items

abbrev pub decreases-loop-used : goal.decreases-loop-used
decreases-loop-used g l = length l.entries
