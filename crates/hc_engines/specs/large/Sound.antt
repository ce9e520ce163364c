-- What is true of the engine by itself.
use Rattle.std.specs.Prelude.{◌≡◌, ℕ, ◌+◌, ◌<◌, ◌≤◌, ◌==◌, Bool, true, false, ◌&&◌, ◌||◌, List, [], ◌∷◌, length, Some, if◌then◌else◌}
use Rattle.hc_types.specs.declared.config.FlashConfig.{FlashConfig}
use Rattle.hc_types.specs.Tally.{count}
use Rattle.hc_engines.specs.large.Region.{Status, Clean, Open, Sealed, Flushing, OnFlash, Draining, is_clean, is_draining, Appended, Region, clean_region, filled_to, next_page, region_at}
use Rattle.hc_engines.specs.large.Index.{Place, place_at}
use Rattle.hc_engines.specs.large.Block.{Work, Writing, Getting, Job, Block}
use Rattle.hc_engines.specs.large.Numbers.{is_in}

-- entries may lead into the region
abbrev pub is_live : Status → Bool
is_live Clean = false
is_live Draining = false
is_live status = true

abbrev pub is_flushing : Status → Bool
is_flushing Flushing = true
is_flushing status = false

-- the region is on flash, or was
abbrev pub is_stored : Status → Bool
is_stored OnFlash = true
is_stored Draining = true
is_stored status = false

-- a write of one of its pages is out
abbrev pub is_out : Region → Bool
is_out region = is_flushing region.status || region.early

abbrev pub is_listed : ℕ → ℕ → List Appended → Bool
is_listed hash offset [] = false
is_listed hash offset (x ∷ xs) = if (x.hash == hash) && (x.offset == offset) then true else is_listed hash offset xs

-- the operation writes a page of the region, it reads one
abbrev pub writes : ℕ → Work → Bool
writes r (Writing x bytes) = x == r
writes r (Getting reading) = false

abbrev pub reads : ℕ → Work → Bool
reads r (Writing x bytes) = false
reads r (Getting reading) = reading.place.region == r

abbrev pub writers : ℕ → List Job → ℕ
writers r jobs = count (λ (job : Job). writes r job.work) jobs

abbrev pub readers : ℕ → List Job → ℕ
readers r jobs = count (λ (job : Job). reads r job.work) jobs

-- not all pages of the region are written
abbrev pub is_filling : Status → Bool
is_filling Open = true
is_filling Sealed = true
is_filling Flushing = true
is_filling status = false

abbrev pub is_waiting : Status → Bool
is_waiting Open = true
is_waiting Sealed = true
is_waiting status = false

-- what is true of a region of which a page goes early
pub record EarlyHolds (flash : FlashConfig) (region : Region) : Type 0 where
  pub waiting : is_waiting region.status ≡ true
  pub full : flash.page ≤ length region.buffer
  pub not_last : region.written + 1 < flash.region_pages

-- the offsets rise from here, and end before there
abbrev pub IsRising : ℕ → List Appended → ℕ → Type 0
IsRising from [] to = from ≤ to
IsRising from (x ∷ xs) to = (from ≤ x.offset) × IsRising (x.offset + 1) xs to

-- what is true of a region that so many operations read and so many write
pub record Holds (flash : FlashConfig) (readers writers : ℕ) (region : Region) : Type 0 where
  pub blank : is_clean region.status ≡ true → region ≡ clean_region
  pub bare : is_live region.status ≡ false → region.appended ≡ []
  -- it is pinned once for each that reads it
  pub pinned : region.pins ≡ readers
  pub drains : is_draining region.status ≡ true → 0 < region.pins
  -- one page of it is written at a time
  pub out : writers ≡ (if is_out region then 1 else 0)
  pub unwritten : is_filling region.status ≡ true → region.written < flash.region_pages
  -- a full page goes early, which isn't the last, from the open region or from one that was sealed since
  pub early : region.early ≡ true → EarlyHolds flash region
  -- what was appended is in order of offset
  pub rising : IsRising 0 region.appended (filled_to flash region)

-- an operation with what it is about
abbrev pub WorkHolds : FlashConfig → List Region → Work → Type 0
WorkHolds flash regions (Writing r bytes) = bytes ≡ next_page flash (region_at r regions)
WorkHolds flash regions (Getting reading) = (reading.next < reading.until) × (reading.until ≤ (region_at reading.place.region regions).written)

abbrev pub AllHold : FlashConfig → List Region → List Job → Type 0
AllHold flash regions [] = Unit {0}
AllHold flash regions (job ∷ jobs) = WorkHolds flash regions job.work × AllHold flash regions jobs

pub record Sound (flash : FlashConfig) (s : Block) : Type 0 where
  pub current : (r : ℕ) → s.current ≡ Some r → (region_at r s.regions).status ≡ Open
  pub sealed : (r : ℕ) → is_in r s.sealed ≡ true → (region_at r s.regions).status ≡ Sealed
  pub flushed : (r : ℕ) → is_in r s.flushed ≡ true → is_stored (region_at r s.regions).status ≡ true
  -- what the index leads to was appended there
  pub listed : (hash : ℕ) (place : Place) → place_at hash s.index ≡ Some place → is_listed hash place.offset (region_at place.region s.regions).appended ≡ true
  pub regions : (r : ℕ) → Holds flash (readers r s.jobs) (writers r s.jobs) (region_at r s.regions)
  pub works : AllHold flash s.regions s.jobs
  -- no two operations have one number
  pub single : (n : ℕ) → count (λ (job : Job). job.number == n) s.jobs ≤ 1
