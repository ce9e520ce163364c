-- What the notes tell of each region in use, beyond what the invariant says: no region is forgotten, one that drains is in the
-- order of flushes or failed since it was opened, and the pages of the open one that were written are those that were noted.
use Rattle.std.specs.Prelude.{◌≡◌, ℕ, true, false, ◌||◌, List, ◌∷◌, Option, Some, None}
use Rattle.hc_types.specs.declared.config.FlashConfig.{FlashConfig}
use Rattle.hc_types.specs.FlashEntry.{FlashEntry}
use Rattle.hc_history.specs.Note.{Note, Wrote, Opened}
use Rattle.hc_engines.specs.Engine.{IoResult, Written, Failed}
use Rattle.hc_engines.specs.large.Region.{Draining, region_at, page_no}
use Rattle.hc_engines.specs.large.Block.{Block, Reading, Writing, Getting, work_of}
use Rattle.hc_engines.specs.large.Steps.{put, flush, reclaim, get, resume}
use Rattle.hc_engines.specs.large.Numbers.{is_in}
use Rattle.hc_engines.specs.large.Sound.{Sound}
use Rattle.hc_follows.specs.Idle.{has_failed, pages_written}
use Rattle.hc_engines.specs.large.Listed.{AllListed}

pub record Accounted (flash : FlashConfig) (older : List Note) (s : Block) : Type 0 where
  pub listed : AllListed s
  pub drained : (r : ℕ) → (region_at r s.regions).status ≡ Draining → (is_in r s.flushed || has_failed flash r older) ≡ true
  pub written : (r : ℕ) → s.current ≡ Some r → pages_written flash r older ≡ (region_at r s.regions).written

-- the region that an operation opened is told
abbrev pub opened_on : Option ℕ → List Note → List Note
opened_on None older = older
opened_on (Some region) older = Opened region ∷ older

abbrev pub PutAccounts : Type 0
PutAccounts = (flash : FlashConfig) (entry : FlashEntry) (older : List Note) (s : Block) → Sound flash s → Accounted flash older s → Accounted flash (opened_on (put flash entry s).outcome.opened older) (put flash entry s).state

abbrev pub FlushAccounts : Type 0
FlushAccounts = (flash : FlashConfig) (number : ℕ) (older : List Note) (s : Block) → Sound flash s → Accounted flash older s → Accounted flash older (flush flash number s).state

abbrev pub ReclaimAccounts : Type 0
ReclaimAccounts = (flash : FlashConfig) (older : List Note) (s : Block) → Sound flash s → Accounted flash older s → Accounted flash older (reclaim flash s).state

abbrev pub GetAccounts : Type 0
GetAccounts = (flash : FlashConfig) (number : ℕ) (key : List ℕ) (older : List Note) (s : Block) → Sound flash s → Accounted flash older s → Accounted flash older (get flash number key s).state

-- ---- results

-- a page was written, and that is told
abbrev pub WrittenAccounts : Type 0
WrittenAccounts = (flash : FlashConfig) (number r : ℕ) (bytes page : List ℕ) (older : List Note) (s : Block) → Sound flash s → work_of number s.jobs ≡ Some (Writing r bytes)
    → Accounted flash older s → Accounted flash (Wrote (page_no flash r (region_at r s.regions).written) page true ∷ older) (resume flash number (Writing r bytes) Written s).state

-- it failed, and that is told
abbrev pub FailedWriteAccounts : Type 0
FailedWriteAccounts = (flash : FlashConfig) (number r : ℕ) (bytes page : List ℕ) (older : List Note) (s : Block) → Sound flash s → work_of number s.jobs ≡ Some (Writing r bytes)
    → Accounted flash older s → Accounted flash (Wrote (page_no flash r (region_at r s.regions).written) page false ∷ older) (resume flash number (Writing r bytes) Failed s).state

-- any result at all of a read
abbrev pub ReadAccounts : Type 0
ReadAccounts = (flash : FlashConfig) (number : ℕ) (reading : Reading) (result : IoResult) (older : List Note) (s : Block) → Sound flash s → work_of number s.jobs ≡ Some (Getting reading)
    → Accounted flash older s → Accounted flash older (resume flash number (Getting reading) result s).state
