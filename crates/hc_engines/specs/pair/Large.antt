-- The large engine as any engine: when its state fits the pages, and what each of its steps keeps and changes.
use Rattle.std.specs.Prelude.{◌≡◌, ◌≢◌, ℕ, ◌<◌, ◌==◌, true, false, List, length, Option, Some, None, is_some, if◌then◌else◌}
use Rattle.hc_types.specs.declared.config.FlashConfig.{FlashConfig}
use Rattle.hc_types.specs.Places.{kept_of, is_small_by}
use Rattle.hc_types.specs.FlashEntry.{FlashEntry}
use Rattle.hc_engines.specs.Engine.{Op, Put, Get, Flush, Reclaim, Page, Written, Failed, Answer, Absent, Pages, Holds, with_page, never, Serves}
use Rattle.hc_engines.specs.large.Entries.{IsLarge}
use Rattle.hc_engines.specs.large.Index.{place_at, is_place}
use Rattle.hc_engines.specs.large.Block.{Block, Reading, Writing, Getting, work_of}
use Rattle.hc_engines.specs.large.Block as block
use Rattle.hc_engines.specs.large.Steps.{put, reclaim, flush, get, resume, take_index}
use Rattle.hc_engines.specs.large.Held as place
use Rattle.hc_engines.specs.large.Good.{Good}
use Rattle.hc_engines.specs.large.Laws.{IsFree, written_page, read_page}
use Rattle.hc_engines.specs.pair.Pair.{next_of}

abbrev pub large_held : FlashConfig → Block → Pages → Holds
large_held flash s pages key = place.held flash pages s key

-- the state fits the pages: it is good with them, and holds large entries alone
pub record LargeFits (flash : FlashConfig) (s : Block) (pages : Pages) : Type 0 where
  pub good : Good flash pages s
  pub large : (key : List ℕ) (e : FlashEntry) → large_held flash s pages key ≡ Some e → is_small_by flash e.key (length e.value) ≡ false
  pub some_bytes : 0 < flash.page
  pub some_pages : 0 < flash.region_pages

-- what a step keeps and changes: what is held changes exactly by the outcome
abbrev pub LargeServes : FlashConfig → Op → Block → Pages → block.Moved → Pages → Type 0
LargeServes flash op s before moved after = Serves (LargeFits flash) (large_held flash) never flash op (next_of moved.outcome moved.order) s before moved.state after

abbrev pub LargePutServes : Type 0
LargePutServes = (flash : FlashConfig) (pages : Pages) (e : FlashEntry) (s : Block) → LargeFits flash s pages → is_small_by flash e.key (length e.value) ≡ false → IsLarge e → LargeServes flash (Put e) s pages (put flash e s) pages

abbrev pub LargeReclaimServes : Type 0
LargeReclaimServes = (flash : FlashConfig) (pages : Pages) (s : Block) → LargeFits flash s pages → LargeServes flash Reclaim s pages (reclaim flash s) pages

abbrev pub LargeFlushServes : Type 0
LargeFlushServes = (flash : FlashConfig) (pages : Pages) (number : ℕ) (s : Block) → LargeFits flash s pages → IsFree number s → LargeServes flash Flush s pages (flush flash number s) pages

abbrev pub LargeWrittenServes : Type 0
LargeWrittenServes = (flash : FlashConfig) (pages : Pages) (number r : ℕ) (bytes : List ℕ) (s : Block) → LargeFits flash s pages → work_of number s.jobs ≡ Some (Writing r bytes)
    → LargeServes flash Flush s pages (resume flash number (Writing r bytes) Written s) (with_page pages (written_page flash r s) (Some bytes))

abbrev pub LargeFailedWriteServes : Type 0
LargeFailedWriteServes = (flash : FlashConfig) (pages : Pages) (number r : ℕ) (bytes : List ℕ) (s : Block) → LargeFits flash s pages → work_of number s.jobs ≡ Some (Writing r bytes)
    → LargeServes flash Flush s pages (resume flash number (Writing r bytes) Failed s) (with_page pages (written_page flash r s) None)

-- ---- gets

-- the index entry isn't the one any more that the get took, and the get finds nothing
pub record Stale (flash : FlashConfig) (s : Block) (reading : Reading) (answer : Answer) : Type 0 where
  pub moved_on : is_place (place_at (kept_of flash.bits reading.key) s.index) reading.place ≡ false
  pub absent : answer ≡ Absent

-- a get that begins is over with what is held, or reads a known page
abbrev pub LargeGetServes : Type 0
LargeGetServes = (flash : FlashConfig) (pages : Pages) (number : ℕ) (key : List ℕ) (s : Block) → LargeFits flash s pages → IsFree number s → LargeServes flash (Get key) s pages (get flash number key s) pages

-- a get that goes on
abbrev pub LargeGoesOn : FlashConfig → Reading → Block → Pages → block.Moved → Type 0
LargeGoesOn flash reading s pages moved = Serves (LargeFits flash) (large_held flash) (Stale flash s reading) flash (Get reading.key) (next_of moved.outcome moved.order) s pages moved.state pages

abbrev pub LargeReadServes : Type 0
LargeReadServes = (flash : FlashConfig) (pages : Pages) (number : ℕ) (reading : Reading) (bytes : List ℕ) (s : Block) → LargeFits flash s pages → work_of number s.jobs ≡ Some (Getting reading) → pages (read_page flash reading) ≡ Some bytes
    → LargeGoesOn flash reading s pages (resume flash number (Getting reading) (Page bytes) s)

abbrev pub LargeFailedReadServes : Type 0
LargeFailedReadServes = (flash : FlashConfig) (pages : Pages) (number : ℕ) (reading : Reading) (s : Block) → LargeFits flash s pages → work_of number s.jobs ≡ Some (Getting reading)
    → LargeGoesOn flash reading s pages (resume flash number (Getting reading) Failed s)

-- ---- what the layers above need besides

-- the index has the kept hash of each key that is held
abbrev pub LargeTells : Type 0
LargeTells = (flash : FlashConfig) (pages : Pages) (s : Block) (key : List ℕ) → large_held flash s pages key ≢ None → is_some (place_at (kept_of flash.bits key) s.index) ≡ true

-- what is written on a bucket's page changes nothing
abbrev pub LargeStays : Type 0
LargeStays = (flash : FlashConfig) (pages : Pages) (page : ℕ) (bytes : Option (List ℕ)) (s : Block) → page < flash.buckets → LargeFits flash s pages
    → LargeFits flash s (with_page pages page bytes) × ((key : List ℕ) → large_held flash s (with_page pages page bytes) key ≡ large_held flash s pages key)

-- an index entry that is taken takes out what is held under keys of its hash
abbrev pub LargeTakes : Type 0
LargeTakes = (flash : FlashConfig) (pages : Pages) (hash : ℕ) (s : Block) → LargeFits flash s pages
    → LargeFits flash (take_index hash s) pages × ((key : List ℕ) → large_held flash (take_index hash s) pages key ≡ (if kept_of flash.bits key == hash then None else large_held flash s pages key))
