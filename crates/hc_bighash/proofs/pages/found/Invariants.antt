use Rattle.std.proofs.Common.{length}
use Rattle.hc_bighash.proofs.Looping.{Finding}
use Rattle.hc_bighash.proofs.pages.found.Given as goal

abbrev pub invariant-loop-placed : goal.invariant-loop-placed
invariant-loop-placed g l = Finding l.key l.page l.fn.entries l.entries l.end

abbrev pub decreases-loop-placed : goal.decreases-loop-placed
decreases-loop-placed g l = length l.entries
