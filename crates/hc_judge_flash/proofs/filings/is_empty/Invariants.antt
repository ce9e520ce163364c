use Rattle.std.proofs.Common.{◌≡◌, ◌==◌, drop}
use Rattle.hc_types.specs.Tally.{count}
use Rattle.hc_history.specs.Regions.{Filing}
use Rattle.hc_judge_flash.proofs.filings.is_empty.Given as goal

-- it is among the rest, if there is one
abbrev pub invariant-loop-filing : goal.invariant-loop-filing
invariant-loop-filing l = (count (λ (filing : Filing). filing.region == l.region) (drop l.filing-index l.filings) == 0) ≡ (count (λ (filing : Filing). filing.region == l.region) l.filings == 0)
