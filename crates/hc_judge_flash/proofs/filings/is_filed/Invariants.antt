use Rattle.std.proofs.Common.{◌≡◌, drop}
use Rattle.hc_history.specs.Regions.{is_filed}
use Rattle.hc_judge_flash.proofs.filings.is_filed.Given as goal

-- it is among the rest, if there is one
abbrev pub invariant-loop-filing : goal.invariant-loop-filing
invariant-loop-filing l = is_filed l.kept (drop l.filing-index l.filings) ≡ is_filed l.kept l.filings
