use Rattle.hc_bucket.proofs.Scanning.{Passed}
use Rattle.hc_bucket.proofs.checking.has_key.Given as goal

abbrev pub invariant-loop : goal.invariant-loop
invariant-loop l = Passed l.bytes l.key l.count l.counter l.rest
