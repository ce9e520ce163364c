use Rattle.hc_bucket.proofs.Scanning.{Scanned}
use Rattle.hc_bucket.proofs.checking.is_whole.Given as goal

abbrev pub invariant-loop-i : goal.invariant-loop-i
invariant-loop-i l = Scanned l.bytes l.count l.i l.marks l.rest
