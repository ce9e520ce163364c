use Rattle.hc_verdict.proofs.Finding.{FoundFrom}
use Rattle.hc_verdict.proofs.lawful.first_unlawful.Given as goal

-- what is found of the rest is what is found of the log
abbrev pub invariant-notes : goal.invariant-notes
invariant-notes g l = FoundFrom l.config l.log l.place
