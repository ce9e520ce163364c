-- What is filed, as the judge goes over a log.
use Rattle.std.specs.Prelude.{◌≡◌, ℕ, ◌==◌, nat_lt, Bool, ◌&&◌, List}
use Rattle.hc_types.specs.declared.config.FlashConfig.{FlashConfig}
use Rattle.hc_types.specs.Tally.{count}
use Rattle.hc_history.specs.Note.{Note}
use Rattle.hc_history.specs.Regions.{Filing, is_one_of, flushed, behind, filling, filed}

-- so full is the region that was opened last, and these are the filings
pub record AreBooks (flash : FlashConfig) (older : List Note) (filled : ℕ) (filings : List Filing) : Type 0 where
  pub filling_is : filled ≡ filling flash older
  pub filed_is : filings ≡ filed flash older

-- the hash is filed under the region, which was flushed, before any other that has a hash
abbrev pub is_first_filed : List Note → List Filing → ℕ → ℕ → Bool
is_first_filed older filings kept region =
    nat_lt 0 (count (λ (filing : Filing). (filing.kept == kept) && (filing.region == region)) filings)
    && (is_one_of region (flushed older) && (count (λ (filing : Filing). is_one_of filing.region (behind region (flushed older))) filings == 0))
