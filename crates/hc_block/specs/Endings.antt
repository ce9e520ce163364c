-- How a get is over, as it can be known before anything changes, and what its end leaves.
use Rattle.std.specs.Prelude.{◌≡◌, ℕ, Bool, true, false, List, set, Option, Some, None}
use Rattle.hc_types.specs.declared.config.FlashConfig.{FlashConfig}
use Rattle.hc_types.specs.Places.{kept_of}
use Rattle.hc_engines.specs.Engine.{Answer, Order, Outcome}
use Rattle.hc_engines.specs.large.Region.{region_at}
use Rattle.hc_engines.specs.large.Index.{Indexed, without}
use Rattle.hc_engines.specs.large.Block.{Block, Work, Writing, Getting, Moved, finished, end_job, work_of}
use Rattle.hc_engines.specs.large.Steps.{get, let_go}
use Rattle.hc_region.specs.CleanNumbers.{clean_from, now_clean}
use Rattle.hc_region.specs.Pins.{released, released_by}
use Rattle.hc_block.specs.Ends.{flushed_left}
use Rattle.hc_block.specs.Reads.{came_to}
use Rattle.hc_block.specs.Works.{reading_at, IsReading}

-- what is left to do of a get that is over
pub record Rest : Type 0 where
  -- the kept hash that leads nowhere then
  pub lost : Option ℕ
  -- the numbers of the clean regions then, where they change
  pub clean : Option (List ℕ)

pub record Ending : Type 0 where
  pub outcome : Outcome
  pub rest : Rest

-- ---- the index

-- the hash leads nowhere, where one is lost
abbrev pub index_without : Option ℕ → List Indexed → List Indexed
index_without None index = index
index_without (Some hash) index = without hash index

abbrev pub without_lost : Option ℕ → Block → Block
without_lost lost s = record s { index = index_without lost s.index }

-- the hash that is lost where a read came to no entry
abbrev pub lost_at : Option Answer → ℕ → Option ℕ
lost_at None hash = Some hash
lost_at (Some answer) hash = None

-- ---- a read that is under way

-- it is over, and its region is let go
abbrev pub read_left : ℕ → Rest → Block → Block
read_left number rest s =
    let r = (reading_at number s.jobs).place.region in
    record (end_job number s) { regions = set s.regions r (released (region_at r s.regions)); flushed = flushed_left (released_by (region_at r s.regions) r) r s.flushed; index = index_without rest.lost s.index }

-- a read is under way with the number, and these are the clean regions once it is over
pub record CanEndRead (number : ℕ) (rest : Rest) (s : Block) : Type 0 where
  pub reads : IsReading number s.jobs
  pub clean : now_clean rest.clean (clean_from 0 s.regions) ≡ clean_from 0 (set s.regions (reading_at number s.jobs).place.region (released (region_at (reading_at number s.jobs).place.region s.regions)))

-- the end of a read that came to this
pub record IsReadEnding (flash : FlashConfig) (number : ℕ) (s : Block) (came : Option Answer) (ending : Ending) : Type 0 where
  pub can : CanEndRead number ending.rest s
  pub moved : let_go (reading_at number s.jobs).place.region (came_to (kept_of flash.bits (reading_at number s.jobs).key) (end_job number s) came) ≡ finished (read_left number ending.rest s) ending.outcome

-- nothing more is to be read
abbrev pub is_last : Option Order → Bool
is_last None = true
is_last (Some order) = false

-- a get is over that moved so
abbrev pub ends_get : Option Work → Option Moved → Bool
ends_get work None = false
ends_get None (Some m) = false
ends_get (Some (Writing r bytes)) (Some m) = false
ends_get (Some (Getting reading)) (Some m) = is_last m.order

-- the step with a result, where it is the end of a get; else it is none
abbrev pub IsEnding : ℕ → Block → Option Moved → Option Ending → Type 0
IsEnding number s moved None = ends_get (work_of number s.jobs) moved ≡ false
IsEnding number s moved (Some ending) = CanEndRead number ending.rest s × (moved ≡ Some (finished (read_left number ending.rest s) ending.outcome))

-- ---- a get that is over as it starts

-- it takes no number
abbrev pub IsEndingAtOnce : FlashConfig → List ℕ → Block → Option Ending → Type 0
IsEndingAtOnce flash key s None = (number : ℕ) → is_last (get flash number key s).order ≡ false
IsEndingAtOnce flash key s (Some ending) = (number : ℕ) → get flash number key s ≡ finished (without_lost ending.rest.lost s) ending.outcome
