-- The laws of the large engine's steps, over the pages as they were last written.
use Rattle.std.specs.Prelude.{◌≡◌, ◌≢◌, ℕ, ◌<◌, true, List, [], ◌∷◌, Option, Some, None, is_some, ⊤, if◌then◌else◌}
use Rattle.hc_types.specs.declared.config.FlashConfig.{FlashConfig}
use Rattle.hc_types.specs.Places.{kept_of}
use Rattle.hc_types.specs.Loss.{Fault}
use Rattle.hc_types.specs.FlashEntry.{FlashEntry}
use Rattle.hc_engines.specs.Engine.{Order, Read, Write, Page, Written, Failed, Nothing, Absent, Pages, with_page, nothing}
use Rattle.hc_engines.specs.large.Entries.{IsLarge}
use Rattle.hc_engines.specs.large.Region.{is_draining, region_at, lowest_clean}
use Rattle.hc_engines.specs.large.Index.{place_at, is_place, leading_into}
use Rattle.hc_engines.specs.large.Block.{Reading, Writing, Getting, Block, Moved, finished, work_of}
use Rattle.hc_engines.specs.large.Steps.{lost, put, reclaim, flush, get, resume, take_index}
use Rattle.hc_engines.specs.large.Held.{held}
use Rattle.hc_engines.specs.large.Fits.{answer_by}
use Rattle.hc_engines.specs.large.Good.{Good}
use Rattle.hc_engines.specs.large.Laws.{IsFree, new_block, written_page, read_page, has_room, after_put, loses, AreInOrder}

-- ---- each step keeps the invariant

abbrev pub NewIsGood : Type 0
NewIsGood = (flash : FlashConfig) (pages : Pages) → Good flash pages (new_block flash)

abbrev pub PutKeeps : Type 0
PutKeeps = (flash : FlashConfig) (pages : Pages) (entry : FlashEntry) (s : Block) → 0 < flash.region_pages → IsLarge entry → Good flash pages s → Good flash pages (put flash entry s).state

abbrev pub ReclaimKeeps : Type 0
ReclaimKeeps = (flash : FlashConfig) (pages : Pages) (s : Block) → Good flash pages s → Good flash pages (reclaim flash s).state

-- a flush of a sealed region, or an early write of the open one
abbrev pub FlushKeeps : Type 0
FlushKeeps = (flash : FlashConfig) (pages : Pages) (number : ℕ) (s : Block) → IsFree number s → Good flash pages s → Good flash pages (flush flash number s).state

abbrev pub WrittenKeeps : Type 0
WrittenKeeps = (flash : FlashConfig) (pages : Pages) (number r : ℕ) (bytes : List ℕ) (s : Block) → work_of number s.jobs ≡ Some (Writing r bytes) → Good flash pages s
    → Good flash (with_page pages (written_page flash r s) (Some bytes)) (resume flash number (Writing r bytes) Written s).state

abbrev pub FailedWriteKeeps : Type 0
FailedWriteKeeps = (flash : FlashConfig) (pages : Pages) (number r : ℕ) (bytes : List ℕ) (s : Block) → work_of number s.jobs ≡ Some (Writing r bytes) → Good flash pages s
    → Good flash (with_page pages (written_page flash r s) None) (resume flash number (Writing r bytes) Failed s).state

-- a get that goes on reads a page that is known
abbrev pub IsReadable : Pages → Option Order → Type 0
IsReadable pages None = ⊤
IsReadable pages (Some (Read page)) = (bytes : List ℕ) × (pages page ≡ Some bytes)
IsReadable pages (Some (Write page bytes)) = ⊥

-- what each part of a get does: it loses nothing, and it goes on with a read, or is over
pub record Reads (flash : FlashConfig) (pages : Pages) (s : Block) (moved : Moved) : Type 0 where
  pub good : Good flash pages moved.state
  pub same : (other : List ℕ) → held flash pages moved.state other ≡ held flash pages s other
  pub losses : moved.outcome.losses ≡ []
  pub known : IsReadable pages moved.order
  pub goes_on : is_some moved.order ≡ true → moved.outcome.answer ≡ Nothing

-- what a get that begins does: it is answered at once, by what is held, or its first page is read
pub record Begun (flash : FlashConfig) (pages : Pages) (key : List ℕ) (s : Block) (moved : Moved) : Type 0 where
  pub reads : Reads flash pages s moved
  pub right : moved.order ≡ None → moved ≡ finished s (record nothing { answer = answer_by (held flash pages s key) })

abbrev pub GetKeeps : Type 0
GetKeeps = (flash : FlashConfig) (pages : Pages) (number : ℕ) (key : List ℕ) (s : Block) → IsFree number s → 0 < flash.page → Good flash pages s → Begun flash pages key s (get flash number key s)

-- what a get that goes on does: it reads its next page, or it answers what is held, unless its index entry changed
pub record Went (flash : FlashConfig) (pages : Pages) (reading : Reading) (s : Block) (moved : Moved) : Type 0 where
  pub reads : Reads flash pages s moved
  pub right : moved.order ≡ None → moved.outcome.answer ≡ (if is_place (place_at (kept_of flash.bits reading.key) s.index) reading.place then answer_by (held flash pages s reading.key) else Absent)

-- an honest read
abbrev pub ReadKeeps : Type 0
ReadKeeps = (flash : FlashConfig) (pages : Pages) (number : ℕ) (reading : Reading) (bytes : List ℕ) (s : Block) → 0 < flash.page → work_of number s.jobs ≡ Some (Getting reading) → pages (read_page flash reading) ≡ Some bytes → Good flash pages s
    → Went flash pages reading s (resume flash number (Getting reading) (Page bytes) s)

-- what a get does whose page can't be read: it takes its index entry, unless that changed, and answers nothing
pub record Stopped (flash : FlashConfig) (pages : Pages) (reading : Reading) (s : Block) (moved : Moved) : Type 0 where
  pub good : Good flash pages moved.state
  pub holds : (other : List ℕ) → held flash pages moved.state other ≡ (if loses (kept_of flash.bits other) moved.outcome.losses then None else held flash pages s other)
  pub losses : moved.outcome.losses ≡ (if is_place (place_at (kept_of flash.bits reading.key) s.index) reading.place then lost Fault (kept_of flash.bits reading.key ∷ []) else [])
  pub absent : moved.outcome.answer ≡ Absent
  pub over : moved.order ≡ None

abbrev pub FailedReadKeeps : Type 0
FailedReadKeeps = (flash : FlashConfig) (pages : Pages) (number : ℕ) (reading : Reading) (s : Block) → work_of number s.jobs ≡ Some (Getting reading) → Good flash pages s
    → Stopped flash pages reading s (resume flash number (Getting reading) Failed s)

abbrev pub TakeKeeps : Type 0
TakeKeeps = (flash : FlashConfig) (pages : Pages) (hash : ℕ) (s : Block) → Good flash pages s → Good flash pages (take_index hash s)

-- what is written elsewhere than on pages of regions changes nothing
abbrev pub OthersKeep : Type 0
OthersKeep = (flash : FlashConfig) (pages : Pages) (page : ℕ) (bytes : Option (List ℕ)) (s : Block) → page < flash.buckets → Good flash pages s
    → Good flash (with_page pages page bytes) s × ((key : List ℕ) → held flash (with_page pages page bytes) s key ≡ held flash pages s key)

-- ---- what is held

abbrev pub PutChangesHeld : Type 0
PutChangesHeld = (flash : FlashConfig) (pages : Pages) (entry : FlashEntry) (s : Block) (key : List ℕ) → 0 < flash.region_pages → IsLarge entry → Good flash pages s
    → held flash pages (put flash entry s).state key ≡ (if has_room flash entry s then after_put flash entry key (held flash pages s key) else held flash pages s key)

-- a reclaim takes out what its losses name, and nothing else
abbrev pub ReclaimChangesHeld : Type 0
ReclaimChangesHeld = (flash : FlashConfig) (pages : Pages) (s : Block) (key : List ℕ) → Good flash pages s
    → held flash pages (reclaim flash s).state key ≡ (if loses (kept_of flash.bits key) (reclaim flash s).outcome.losses then None else held flash pages s key)

abbrev pub FlushHoldsAll : Type 0
FlushHoldsAll = (flash : FlashConfig) (pages : Pages) (number : ℕ) (s : Block) (key : List ℕ) → Good flash pages s → held flash pages (flush flash number s).state key ≡ held flash pages s key

abbrev pub WrittenHoldsAll : Type 0
WrittenHoldsAll = (flash : FlashConfig) (pages : Pages) (number r : ℕ) (bytes : List ℕ) (s : Block) (key : List ℕ) → work_of number s.jobs ≡ Some (Writing r bytes) → Good flash pages s
    → held flash (with_page pages (written_page flash r s) (Some bytes)) (resume flash number (Writing r bytes) Written s).state key ≡ held flash pages s key

abbrev pub FailedWriteChangesHeld : Type 0
FailedWriteChangesHeld = (flash : FlashConfig) (pages : Pages) (number r : ℕ) (bytes : List ℕ) (s : Block) (key : List ℕ) → work_of number s.jobs ≡ Some (Writing r bytes) → Good flash pages s
    → held flash (with_page pages (written_page flash r s) None) (resume flash number (Writing r bytes) Failed s).state key
    ≡ (if loses (kept_of flash.bits key) (resume flash number (Writing r bytes) Failed s).outcome.losses then None else held flash pages s key)

-- ---- orders

-- no get has an order for the page that a write is out of
abbrev pub WritesStandAlone : Type 0
WritesStandAlone = (flash : FlashConfig) (pages : Pages) (s : Block) (n m r : ℕ) (bytes : List ℕ) (reading : Reading) → Good flash pages s
    → work_of n s.jobs ≡ Some (Writing r bytes) → work_of m s.jobs ≡ Some (Getting reading) → read_page flash reading ≢ written_page flash r s

-- no two writes are out of one region
abbrev pub RegionsHaveOneWriter : Type 0
RegionsHaveOneWriter = (flash : FlashConfig) (pages : Pages) (s : Block) (n m r : ℕ) (bytes more : List ℕ) → Good flash pages s → work_of n s.jobs ≡ Some (Writing r bytes) → work_of m s.jobs ≡ Some (Writing r more) → n ≡ m

-- a region that is read isn't opened
abbrev pub ReadsHoldRegions : Type 0
ReadsHoldRegions = (flash : FlashConfig) (pages : Pages) (s : Block) (n r : ℕ) (reading : Reading) → Good flash pages s → work_of n s.jobs ≡ Some (Getting reading) → lowest_clean 0 s.regions ≡ Some r → r ≢ reading.place.region

-- a region that drains has a pin
abbrev pub DrainingIsPinned : Type 0
DrainingIsPinned = (flash : FlashConfig) (pages : Pages) (s : Block) (r : ℕ) → Good flash pages s → is_draining (region_at r s.regions).status ≡ true → 0 < (region_at r s.regions).pins

-- what a region that ends loses, it loses in order of offset
abbrev pub LossesAreInOrder : Type 0
LossesAreInOrder = (flash : FlashConfig) (pages : Pages) (s : Block) (r : ℕ) → Good flash pages s → AreInOrder s.index 0 (leading_into r (region_at r s.regions).appended s.index)
