-- What a get comes to whose page couldn't be read, or whose bytes are no entry.
use Rattle.std.specs.Prelude.{◌≡◌, ℕ, ◌+◌, ◌≤◌, Bool, List, [], ◌∷◌, ◌++◌, Some, None, if◌then◌else◌}
use Rattle.hc_types.specs.declared.config.FlashConfig.{FlashConfig}
use Rattle.hc_types.specs.Places.{kept_of}
use Rattle.hc_types.specs.Loss.{Fault}
use Rattle.hc_engines.specs.Engine.{Page, Failed, Absent, outcome_of, nothing}
use Rattle.hc_engines.specs.large.Entries.{entry_in}
use Rattle.hc_engines.specs.large.Index.{Place, place_at, is_place}
use Rattle.hc_engines.specs.large.Block.{Reading, Getting, Block, Moved, finished, end_job}
use Rattle.hc_engines.specs.large.Steps.{lost, first_page, reading_of, read_bytes, let_go, get, resume, take_index}

-- the index still leads where the get reads
abbrev pub still_leads : FlashConfig → Reading → Block → Bool
still_leads flash reading s = is_place (place_at (kept_of flash.bits reading.key) s.index) reading.place

-- the read is over, and its region is let go
abbrev pub read_over : ℕ → Reading → Block → Moved
read_over number reading s = let_go reading.place.region (finished (end_job number s) nothing)

-- a page more was read
abbrev pub read_on : Reading → List ℕ → Reading
read_on reading bytes = record reading { got = reading.got ++ bytes; next = reading.next + 1 }

-- The get is over and finds nothing. Where its index entry still stands, that entry is taken and told as lost; where it moved
-- on, nothing is told. Nothing else changes but that the read is over.
pub record Unread (flash : FlashConfig) (number : ℕ) (reading : Reading) (s : Block) (moved : Moved) : Type 0 where
  pub over : moved.order ≡ None
  pub outcome : moved.outcome ≡ record (outcome_of Absent (if still_leads flash reading s then lost Fault (kept_of flash.bits reading.key ∷ []) else [])) { cleared = (read_over number reading s).outcome.cleared }
  pub state : moved.state ≡ (if still_leads flash reading s then take_index (kept_of flash.bits reading.key) (read_over number reading s).state else (read_over number reading s).state)

abbrev pub FailedReadIsTold : Type 0
FailedReadIsTold = (flash : FlashConfig) (number : ℕ) (reading : Reading) (s : Block) → Unread flash number reading s (resume flash number (Getting reading) Failed s)

-- the last page was read, and all that was read is no entry
abbrev pub UnreadableIsTold : Type 0
UnreadableIsTold = (flash : FlashConfig) (number : ℕ) (reading : Reading) (bytes : List ℕ) (s : Block) → reading.until ≤ reading.next + 1 → entry_in (read_bytes flash (read_on reading bytes)) ≡ None
    → Unread flash number reading s (resume flash number (Getting reading) (Page bytes) s)

-- no page has to be read, and what is in the buffer is no entry
abbrev pub UnreadableAtOnceIsTold : Type 0
UnreadableAtOnceIsTold = (flash : FlashConfig) (number : ℕ) (key : List ℕ) (place : Place) (s : Block) → place_at (kept_of flash.bits key) s.index ≡ Some place → (reading_of flash key place s).until ≤ first_page flash place → entry_in (read_bytes flash (reading_of flash key place s)) ≡ None
    → get flash number key s ≡ finished (take_index (kept_of flash.bits key) s) (outcome_of Absent (lost Fault (kept_of flash.bits key ∷ [])))
