-- Reads: what they come to, and that their region is let go.
use Rattle.std.specs.Prelude.{ℕ, ◌+◌, ◌<◌, ◌≤◌, ◌%◌, nat_lt, List, [], ◌∷◌, ◌++◌, length, take, drop, Option, Some, None, if◌then◌else◌}
use Rattle.hc_types.specs.declared.config.FlashConfig.{FlashConfig}
use Rattle.hc_types.specs.Places.{kept_of}
use Rattle.hc_types.specs.Loss.{Hash, Fault}
use Rattle.hc_types.specs.FlashEntry.{FlashEntry}
use Rattle.hc_engines.specs.Engine.{Answer, Absent, Loss, nothing}
use Rattle.hc_engines.specs.large.Entries.{entry_in}
use Rattle.hc_engines.specs.large.Region.{region_at, page_no}
use Rattle.hc_engines.specs.large.Index.{Place, Indexed, place_at, without, is_place}
use Rattle.hc_engines.specs.large.Block.{Reading, Block, Moved, finished, end_job}
use Rattle.hc_engines.specs.large.Steps.{own_entry, unreadable, read_next, pinned}
use Rattle.hc_block.specs.Large.{Kept}
use Rattle.hc_engines.specs.large.Unread.{read_on}
use Rattle.hc_engines.specs.large.Laws.{IsFree}
use Rattle.hc_block.specs.Works.{reading_at, IsReading}

-- ---- what a read came to: an answer, or none where its bytes are no entry

abbrev pub came_in : List ℕ → Option FlashEntry → Option Answer
came_in key None = None
came_in key (Some entry) = Some (own_entry key entry)

-- these are the bytes of its pages, and these the rest
abbrev pub came_by : FlashConfig → List ℕ → Place → List ℕ → List ℕ → List Indexed → Option Answer
came_by flash key place got rest index =
    if is_place (place_at (kept_of flash.bits key) index) place
    then came_in key (entry_in (take place.length (drop (place.offset % flash.page) got ++ rest)))
    else Some Absent

-- of a read that failed
abbrev pub came_failed : FlashConfig → List ℕ → Place → List Indexed → Option Answer
came_failed flash key place index = if is_place (place_at (kept_of flash.bits key) index) place then None else Some Absent

abbrev pub came_to : ℕ → Block → Option Answer → Moved
came_to hash s None = unreadable hash s
came_to hash s (Some answer) = finished s (record nothing { answer = answer })

-- the same by its parts
abbrev pub index_left : Option Answer → ℕ → List Indexed → List Indexed
index_left None hash index = without hash index
index_left (Some answer) hash index = index

abbrev pub answer_at : Option Answer → Answer
answer_at None = Absent
answer_at (Some answer) = answer

abbrev pub losses_at : Option Answer → ℕ → List Loss
losses_at None hash = record { scope = Hash hash None; cause = Fault } ∷ []
losses_at (Some answer) hash = []

-- ---- which page is read next

abbrev pub next_of : FlashConfig → Reading → Option ℕ
next_of flash reading = if nat_lt (reading.next + 1) reading.until then Some (page_no flash reading.place.region (reading.next + 1)) else None

-- a read can go on
pub record CanReadOn (flash : FlashConfig) (number : ℕ) (s : Block) : Type 0 where
  pub read : IsReading number s.jobs
  pub small : (reading_at number s.jobs).next < 65536
  pub kept : (bytes : List ℕ) → Kept flash (read_next flash number (read_on (reading_at number s.jobs) bytes) (end_job number s)).state

-- a read can begin
pub record CanRead (flash : FlashConfig) (number : ℕ) (reading : Reading) (s : Block) : Type 0 where
  pub free : IsFree number s
  pub there : reading.place.region < length s.regions
  pub pins : (region_at reading.place.region s.regions).pins ≤ length s.jobs
  pub next : reading.next < 65536
  pub kept : Kept flash (read_next flash number reading (pinned reading.place.region s)).state
