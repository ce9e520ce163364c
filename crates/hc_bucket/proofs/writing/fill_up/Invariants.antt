use Rattle.std.proofs.Common.{length, ◌-◌}
use Rattle.hc_bucket.proofs.PutEntries.{Filled}
use Rattle.hc_bucket.proofs.writing.fill_up.Given as goal

abbrev pub invariant-loop-page : goal.invariant-loop-page
invariant-loop-page g l = Filled l.fn.page.items l.page.items l.len

abbrev pub decreases-loop-page : goal.decreases-loop-page
decreases-loop-page g l = l.len - length l.page.items
