use Rattle.std.proofs.Common.{◌≡◌, ◌==◌, drop}
use Rattle.hc_types.specs.Tally.{count}
use Rattle.hc_history.specs.Regions.{Filing, is_one_of}
use Rattle.hc_judge_flash.proofs.filings.are_empty.Given as goal

-- it is among the rest, if there is one
abbrev pub invariant-loop-filing : goal.invariant-loop-filing
invariant-loop-filing l = (count (λ (filing : Filing). is_one_of filing.region l.regions) (drop l.filing-index l.filings) == 0) ≡ (count (λ (filing : Filing). is_one_of filing.region l.regions) l.filings == 0)
