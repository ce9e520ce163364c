use Rattle.std.proofs.Common.{◌≡◌, ◌==◌, ◌&&◌, nat_lt, drop}
use Rattle.hc_types.specs.Tally.{count}
use Rattle.hc_types.specs.Places.{is_page_of}
use Rattle.hc_history.specs.Regions.{Filing}
use Rattle.hc_judge_flash.proofs.filings.is_filed_at.Given as goal

-- it is among the rest, if there is one
abbrev pub invariant-loop-filing : goal.invariant-loop-filing
invariant-loop-filing l = nat_lt 0 (count (λ (filing : Filing). (filing.kept == l.kept) && is_page_of l.flash filing.region l.page) (drop l.filing-index l.filings)) ≡ nat_lt 0 (count (λ (filing : Filing). (filing.kept == l.kept) && is_page_of l.flash filing.region l.page) l.filings)
