-- What ties the engine to the device's pages.
use Rattle.std.specs.Prelude.{◌≡◌, ℕ, ◌+◌, ◌<◌, ◌≤◌, true, false, List, [], ◌∷◌, ◌++◌, take, drop, length, Option, Some, None}
use Rattle.hc_types.specs.declared.config.FlashConfig.{FlashConfig}
use Rattle.hc_types.specs.Places.{kept_of}
use Rattle.hc_types.specs.FlashEntry.{FlashEntry}
use Rattle.hc_engines.specs.Engine.{Answer, Absent, Found}
use Rattle.hc_engines.specs.large.Entries.{entry_in}
use Rattle.hc_engines.specs.large.Region.{is_clean, region_at, page_no}
use Rattle.hc_engines.specs.large.Index.{Place, place_at}
use Rattle.hc_engines.specs.large.Block.{Reading, Work, Writing, Getting, Job, Block}
use Rattle.hc_engines.specs.large.Steps.{first_page}
use Rattle.hc_engines.specs.large.Held.{bytes_or_none, first_pages, bytes_of, bytes_at}
use Rattle.hc_engines.specs.large.Sound.{is_live}

-- at the place stands an entry whose key has this hash
pub record HoldsEntry (flash : FlashConfig) (pages : ℕ → Option (List ℕ)) (s : Block) (hash : ℕ) (place : Place) : Type 0 where
  pub entry : FlashEntry
  pub read : entry_in (bytes_at flash pages s place) ≡ Some entry
  pub own : kept_of flash.bits entry.key ≡ hash
  pub within : place.offset + place.length ≤ length (bytes_of flash pages s place.region)

pub record Fits (flash : FlashConfig) (pages : ℕ → Option (List ℕ)) (s : Block) : Type 0 where
  -- the pages that were written since the region was opened are known, and whole
  pub known : (r i : ℕ) → is_clean (region_at r s.regions).status ≡ false → i < (region_at r s.regions).written → length (bytes_or_none (pages (page_no flash r i))) ≡ flash.page
  pub within : (r : ℕ) → (region_at r s.regions).written ≤ flash.region_pages
  -- the index leads to entries
  pub places : (hash : ℕ) (place : Place) → place_at hash s.index ≡ Some place → HoldsEntry flash pages s hash place

-- A read under way has the bytes of its pages so far. While entries may lead into the region, those of the pages that it
-- reads and of what it took from the buffer are the bytes at its place.
pub record ReadHolds (flash : FlashConfig) (pages : ℕ → Option (List ℕ)) (s : Block) (reading : Reading) : Type 0 where
  pub chain : first_pages flash pages reading.place.region (first_page flash reading.place) ++ reading.got ≡ first_pages flash pages reading.place.region reading.next
  pub begun : first_page flash reading.place ≤ reading.next
  pub whole : is_live (region_at reading.place.region s.regions).status ≡ true
      → (take reading.place.length (drop reading.place.offset (first_pages flash pages reading.place.region reading.until) ++ reading.rest) ≡ bytes_at flash pages s reading.place)
      × (reading.place.offset + reading.place.length ≤ length (bytes_of flash pages s reading.place.region))

abbrev pub WorkReads : FlashConfig → (ℕ → Option (List ℕ)) → Block → Work → Type 0
WorkReads flash pages s (Writing r bytes) = Unit {0}
WorkReads flash pages s (Getting reading) = ReadHolds flash pages s reading

abbrev pub ReadsHold : FlashConfig → (ℕ → Option (List ℕ)) → Block → List Job → Type 0
ReadsHold flash pages s [] = Unit {0}
ReadsHold flash pages s (job ∷ jobs) = WorkReads flash pages s job.work × ReadsHold flash pages s jobs

-- what a get answers of what is held
abbrev pub answer_by : Option FlashEntry → Answer
answer_by None = Absent
answer_by (Some entry) = Found entry
