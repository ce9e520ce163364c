use Rattle.std.proofs.Common.{length}
use Rattle.hc_bighash.proofs.Looping.{Counting}
use Rattle.hc_bighash.proofs.pages.used_but.Given as goal

abbrev pub invariant-loop-placed : goal.invariant-loop-placed
invariant-loop-placed l = Counting l.key l.entries l.rest l.used

abbrev pub decreases-loop-placed : goal.decreases-loop-placed
decreases-loop-placed l = length l.rest
