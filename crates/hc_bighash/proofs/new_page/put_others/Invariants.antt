use Rattle.std.proofs.Common.{length}
use Rattle.hc_bighash.proofs.Looping.{Keeping}
use Rattle.hc_bighash.proofs.new_page.put_others.Given as goal

abbrev pub invariant-loop-first : goal.invariant-loop-first
invariant-loop-first g l = Keeping l.key l.fn.page.items l.page.items l.fn.entries l.entries l.count l.word

abbrev pub decreases-loop-first : goal.decreases-loop-first
decreases-loop-first g l = length l.entries
