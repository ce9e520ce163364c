-- What each step of the large engine keeps of itself and of the region books, what it tells, and what it
-- holds before and after at each key.
use Rattle.std.specs.Prelude.{◌≡◌, ◌⊎◌, ℕ, ◌<◌, ◌==◌, Bool, true, false, List, [], ◌∷◌, ◌++◌, length, map, Some, None, IsSome, is_some, if◌then◌else◌}
use Rattle.hc_types.specs.Config.{Config}
use Rattle.hc_types.specs.Loss as loss
use Rattle.hc_types.specs.Loss.{NoCleanRegion, Collision}
use Rattle.hc_types.specs.Places.{kept_of, is_small_by}
use Rattle.hc_types.specs.declared.config.FlashConfig.{FlashConfig}
use Rattle.hc_types.specs.FlashEntry.{FlashEntry}
use Rattle.hc_engines.specs.Engine.{Page, Written, Failed, Read, Write, Absent, Loss, Outcome, nothing}
use Rattle.hc_engines.specs.large.Entries.{IsLarge}
use Rattle.hc_engines.specs.large.Region.{region_at}
use Rattle.hc_engines.specs.large.Index.{place_at, is_place}
use Rattle.hc_engines.specs.large.Block.{Writing, Getting, Reading, Block, Moved, finished, work_of}
use Rattle.hc_engines.specs.large.Held as large
use Rattle.hc_engines.specs.large.Sound.{Sound}
use Rattle.hc_engines.specs.large.Fits.{Fits, ReadsHold, answer_by}
use Rattle.hc_engines.specs.large.Laws.{IsFree, has_room, after_put, read_page, written_page}
use Rattle.hc_engines.specs.large.Steps as steps
use Rattle.hc_history.specs.Note.{Note, Lose, Unqueued, Read as WasRead, Wrote, Opened, Flushed, Cleared}
use Rattle.hc_history.specs.Books.{waiting, is_among, entry_at}
use Rattle.hc_history.specs.Pages.{bytes_at, bucket_entries}
use Rattle.hc_history.specs.Regions.{flushed, begins, put_under_way, is_put_of}
use Rattle.hc_history.specs.Lawful.{Allowed, Lawful, IsChanged, past}
use Rattle.hc_machine.specs.Takes.{region_note, loss_notes}
use Rattle.hc_invariant.specs.Standing.{map_of}
use Rattle.hc_invariant.specs.Tells.{RegionsTell}
use Rattle.hc_invariant.specs.Laws.{LawfulIn}
use Rattle.hc_invariant.specs.Good.{OneFlush}

-- the large engine by itself, with the books' pages, and against the books
pub record LargeFits (flash : FlashConfig) (older : List Note) (s : Block) : Type 0 where
  pub sound : Sound flash s
  pub fits : Fits flash (bytes_at older) s
  pub reads : ReadsHold flash (bytes_at older) s s.jobs
  pub regions : RegionsTell flash older s

-- the part loses this kept hash
abbrev pub loses : ℕ → List Note → Bool
loses hash [] = false
loses hash (Lose (loss.Hash kept but) cause ∷ part) = if kept == hash then true else loses hash part
loses hash (note ∷ part) = loses hash part

-- A step's part is lawful, the engine fits after it, and it holds what it held but for what the part loses.
pub record LargeKeeps (config : Config) (flash : FlashConfig) (older part : List Note) (old new : Block) : Type 0 where
  pub lawful : Lawful config older part
  -- and whatever is told behind it
  pub lawful_in : (tail : List Note) → LawfulIn config older part tail
  pub fit : LargeFits flash (past older part) new
  pub held : (key : List ℕ) → large.held flash (bytes_at (past older part)) new key ≡ (if loses (kept_of flash.bits key) part then None else large.held flash (bytes_at older) old key)
  -- where the index leads
  pub index : (hash : ℕ) → place_at hash new.index ≡ (if loses hash part then None else place_at hash old.index)
  -- the buckets are as they were
  pub pages : (page : ℕ) → page < flash.buckets → bytes_at (past older part) page ≡ bytes_at older page
  pub entries : (bucket : ℕ) → bucket < flash.buckets → bucket_entries flash (past older part) bucket ≡ bucket_entries flash older bucket
  pub once : OneFlush older → OneFlush (past older part)

-- The operations under other numbers than this are as they were, with their orders (an order to write a page is one of the
-- region's pages that are written).
pub record OthersStay (others : ℕ → Bool) (old new : Block) : Type 0 where
  pub works : (n : ℕ) → others n ≡ true → work_of n new.jobs ≡ work_of n old.jobs
  pub written : (n r : ℕ) (bytes : List ℕ) → others n ≡ true → work_of n old.jobs ≡ Some (Writing r bytes) → (region_at r new.regions).written ≡ (region_at r old.regions).written

abbrev pub but : ℕ → ℕ → Bool
but number n = if n == number then false else true

abbrev pub each : ℕ → Bool
each n = true

-- what an outcome of the large engine tells: for these steps nothing is opened
abbrev pub told : Outcome → List Note
told outcome = map (λ (loss : Loss). Lose loss.scope loss.cause) outcome.losses ++ (region_note Flushed outcome.flushed ++ region_note Cleared outcome.cleared)

-- ---- an insert, an add that stores, or a remove takes the index entry

abbrev pub taken_note : FlashConfig → List ℕ → Note
taken_note flash key = Lose (loss.Hash (kept_of flash.bits key) (Some key)) (Collision key)

pub record Takes (config : Config) (flash : FlashConfig) (older rest : List Note) (key : List ℕ) (s : Block) : Type 0 where
  pub allowed : Allowed config older (taken_note flash key) rest
  pub fit : LargeFits flash (taken_note flash key ∷ older) (steps.take_index (kept_of flash.bits key) s)
  pub held : (k : List ℕ) → large.held flash (bytes_at older) (steps.take_index (kept_of flash.bits key) s) k ≡ (if kept_of flash.bits k == kept_of flash.bits key then None else large.held flash (bytes_at older) s k)

-- the last note is no large put of the key (`Unqueued` is right after `Begin` in a call of it)
abbrev pub TakeTells : Type 0
TakeTells = (config : Config) (flash : FlashConfig) (older rest : List Note) (key : List ℕ) (s : Block) → config.flash ≡ Some flash → LargeFits flash older s
    → is_some (place_at (kept_of flash.bits key) s.index) ≡ true → IsChanged older key rest → is_put_of key (put_under_way flash older) ≡ false → Takes config flash older rest key s

-- ---- a large put

-- what it tells: its key leaves the queue, a region may be opened, and what it loses
abbrev pub put_part : FlashConfig → FlashEntry → Block → List Note
put_part flash e s =
    Unqueued e.key ∷ (region_note Opened (steps.put flash e s).outcome.opened ++ loss_notes (steps.put flash e s).outcome.losses)

-- the three ways: the part is one of these
pub data PutWay (flash : FlashConfig) (e : FlashEntry) (s : Block) (part : List Note) : Type 0 where
  Fitting : has_room flash e s ≡ true → part ≡ Unqueued e.key ∷ (if is_some (place_at (kept_of flash.bits e.key) s.index) then taken_note flash e.key ∷ [] else []) → PutWay flash e s part
  Opening : (r : ℕ) → has_room flash e s ≡ true → part ≡ Unqueued e.key ∷ Opened r ∷ (if is_some (place_at (kept_of flash.bits e.key) s.index) then taken_note flash e.key ∷ [] else []) → PutWay flash e s part
  Unplaced : has_room flash e s ≡ false → part ≡ Unqueued e.key ∷ Lose (loss.Key e.key) NoCleanRegion ∷ [] → (steps.put flash e s).state ≡ s → PutWay flash e s part

pub record PutTold (config : Config) (flash : FlashConfig) (older : List Note) (e : FlashEntry) (s : Block) : Type 0 where
  pub lawful : Lawful config older (put_part flash e s)
  pub tells : RegionsTell flash (past older (put_part flash e s)) (steps.put flash e s).state
  pub sound : Sound flash (steps.put flash e s).state
  pub fits : Fits flash (bytes_at older) (steps.put flash e s).state
  pub reads : ReadsHold flash (bytes_at older) (steps.put flash e s).state (steps.put flash e s).state.jobs
  pub holds : (key : List ℕ) → large.held flash (bytes_at older) (steps.put flash e s).state key
      ≡ (if has_room flash e s then after_put flash e key (large.held flash (bytes_at older) s key) else large.held flash (bytes_at older) s key)
  -- no page is written, no bucket is given up, and nothing is flushed
  pub pages : bytes_at (past older (put_part flash e s)) ≡ bytes_at older
  pub entries : bucket_entries flash (past older (put_part flash e s)) ≡ bucket_entries flash older
  pub once : flushed (past older (put_part flash e s)) ≡ flushed older
  pub way : PutWay flash e s (put_part flash e s)
  -- where the index leads from other hashes
  pub index : (hash : ℕ) → (hash == kept_of flash.bits e.key) ≡ false → place_at hash (steps.put flash e s).state.index ≡ place_at hash s.index
  pub others : OthersStay each s (steps.put flash e s).state
  pub order : (steps.put flash e s).order ≡ None

abbrev pub PutTells : Type 0
PutTells = (config : Config) (flash : FlashConfig) (older : List Note) (e : FlashEntry) (s : Block) → config.flash ≡ Some flash → 0 < flash.region_pages
    → is_among e.key (waiting older) ≡ true → begins older e.key ≡ false → entry_at (Some flash) older e.key ≡ Some (map_of e) → is_small_by flash e.key (length e.value) ≡ false → IsLarge e
    → RegionsTell flash older s → Sound flash s → Fits flash (bytes_at older) s → ReadsHold flash (bytes_at older) s s.jobs → PutTold config flash older e s

-- ---- regions are written

-- The operation under the number writes this page of a region.
pub record WritesPage (flash : FlashConfig) (number : ℕ) (moved : Moved) : Type 0 where
  pub region : ℕ
  pub bytes : List ℕ
  pub there : region < flash.regions
  pub work : work_of number moved.state.jobs ≡ Some (Writing region bytes)
  pub order : moved.order ≡ Some (Write (written_page flash region moved.state) bytes)
  pub outcome : moved.outcome ≡ nothing
  pub whole : length bytes ≡ flash.page

abbrev pub FlushTells : Type 0
FlushTells = (config : Config) (flash : FlashConfig) (older : List Note) (number : ℕ) (s : Block) → config.flash ≡ Some flash → IsFree number s → LargeFits flash older s
    → LargeKeeps config flash older [] s (steps.flush flash number s).state

-- a page goes out, or there is none to be written
abbrev pub FlushGives : Type 0
FlushGives = (flash : FlashConfig) (older : List Note) (number : ℕ) (s : Block) → IsFree number s → LargeFits flash older s
    → OthersStay (but number) s (steps.flush flash number s).state × (WritesPage flash number (steps.flush flash number s) ⊎ (steps.flush flash number s ≡ finished s nothing))

abbrev pub WrittenTells : Type 0
WrittenTells = (config : Config) (flash : FlashConfig) (older : List Note) (number r : ℕ) (bytes : List ℕ) (s : Block) → config.flash ≡ Some flash → work_of number s.jobs ≡ Some (Writing r bytes) → LargeFits flash older s
    → LargeKeeps config flash older (Wrote (written_page flash r s) bytes true ∷ told (steps.resume flash number (Writing r bytes) Written s).outcome) s (steps.resume flash number (Writing r bytes) Written s).state

-- the operation is over
pub record IsOver (number : ℕ) (moved : Moved) : Type 0 where
  pub order : moved.order ≡ None
  pub work : work_of number moved.state.jobs ≡ None

-- the next page goes out, under the same number, or the operation is over
abbrev pub WrittenGives : Type 0
WrittenGives = (flash : FlashConfig) (older : List Note) (number r : ℕ) (bytes : List ℕ) (s : Block) → work_of number s.jobs ≡ Some (Writing r bytes) → LargeFits flash older s
    → OthersStay (but number) s (steps.resume flash number (Writing r bytes) Written s).state
    × (WritesPage flash number (steps.resume flash number (Writing r bytes) Written s) ⊎ IsOver number (steps.resume flash number (Writing r bytes) Written s))

abbrev pub FailedWriteTells : Type 0
FailedWriteTells = (config : Config) (flash : FlashConfig) (older : List Note) (number r : ℕ) (bytes : List ℕ) (s : Block) → config.flash ≡ Some flash → work_of number s.jobs ≡ Some (Writing r bytes) → LargeFits flash older s
    → LargeKeeps config flash older (Wrote (written_page flash r s) bytes false ∷ told (steps.resume flash number (Writing r bytes) Failed s).outcome) s (steps.resume flash number (Writing r bytes) Failed s).state

abbrev pub FailedWriteGives : Type 0
FailedWriteGives = (flash : FlashConfig) (older : List Note) (number r : ℕ) (bytes : List ℕ) (s : Block) → work_of number s.jobs ≡ Some (Writing r bytes) → LargeFits flash older s
    → OthersStay (but number) s (steps.resume flash number (Writing r bytes) Failed s).state × IsOver number (steps.resume flash number (Writing r bytes) Failed s)

-- ---- reclaim

abbrev pub ReclaimTells : Type 0
ReclaimTells = (config : Config) (flash : FlashConfig) (older : List Note) (s : Block) → config.flash ≡ Some flash → OneFlush older → LargeFits flash older s
    → LargeKeeps config flash older (told (steps.reclaim flash s).outcome) s (steps.reclaim flash s).state

abbrev pub ReclaimGives : Type 0
ReclaimGives = (flash : FlashConfig) (older : List Note) (s : Block) → LargeFits flash older s → OthersStay each s (steps.reclaim flash s).state

-- ---- reads

-- The operation under the number reads a page for this key, which is known.
pub record ReadsPage (flash : FlashConfig) (older : List Note) (number : ℕ) (key : List ℕ) (moved : Moved) : Type 0 where
  pub reading : Reading
  pub key_is : reading.key ≡ key
  pub work : work_of number moved.state.jobs ≡ Some (Getting reading)
  pub order : moved.order ≡ Some (Read (read_page flash reading))
  pub outcome : moved.outcome ≡ nothing
  pub known : IsSome (bytes_at older (read_page flash reading))

-- a get tells nothing
abbrev pub GetTells : Type 0
GetTells = (config : Config) (flash : FlashConfig) (older : List Note) (number : ℕ) (key : List ℕ) (s : Block) → config.flash ≡ Some flash → 0 < flash.page → IsFree number s → LargeFits flash older s
    → LargeKeeps config flash older [] s (steps.get flash number key s).state

-- it begins a read of the place to which the index leads
pub record GetReads (flash : FlashConfig) (older : List Note) (number : ℕ) (key : List ℕ) (s : Block) (moved : Moved) : Type 0 where
  pub page : ReadsPage flash older number key moved
  pub leads : is_place (place_at (kept_of flash.bits key) moved.state.index) page.reading.place ≡ true

-- or is answered at once, by what is held
abbrev pub GetGives : Type 0
GetGives = (flash : FlashConfig) (older : List Note) (number : ℕ) (key : List ℕ) (s : Block) → 0 < flash.page → IsFree number s → LargeFits flash older s
    → OthersStay (but number) s (steps.get flash number key s).state
    × (GetReads flash older number key s (steps.get flash number key s) ⊎ (steps.get flash number key s ≡ finished s (record nothing { answer = answer_by (large.held flash (bytes_at older) s key) })))

-- an honest read
abbrev pub ReadTells : Type 0
ReadTells = (config : Config) (flash : FlashConfig) (older : List Note) (number : ℕ) (reading : Reading) (bytes : List ℕ) (s : Block) → config.flash ≡ Some flash → 0 < flash.page → work_of number s.jobs ≡ Some (Getting reading)
    → bytes_at older (read_page flash reading) ≡ Some bytes → LargeFits flash older s
    → LargeKeeps config flash older (WasRead (read_page flash reading) (Some bytes) ∷ told (steps.resume flash number (Getting reading) (Page bytes) s).outcome) s (steps.resume flash number (Getting reading) (Page bytes) s).state

-- it goes on with the next page of the same place
pub record GoesOnReading (flash : FlashConfig) (older : List Note) (number : ℕ) (old : Reading) (moved : Moved) : Type 0 where
  pub page : ReadsPage flash older number old.key moved
  pub place : page.reading.place ≡ old.place

-- or it is over: it answers what is held, unless its index entry changed, and loses nothing
pub record ReadIsOver (flash : FlashConfig) (older : List Note) (number : ℕ) (reading : Reading) (s : Block) (moved : Moved) : Type 0 where
  pub over : IsOver number moved
  pub losses : moved.outcome.losses ≡ []
  pub answer : moved.outcome.answer ≡ (if is_place (place_at (kept_of flash.bits reading.key) s.index) reading.place then answer_by (large.held flash (bytes_at older) s reading.key) else Absent)

abbrev pub ReadGives : Type 0
ReadGives = (flash : FlashConfig) (older : List Note) (number : ℕ) (reading : Reading) (bytes : List ℕ) (s : Block) → 0 < flash.page → work_of number s.jobs ≡ Some (Getting reading) → bytes_at older (read_page flash reading) ≡ Some bytes → LargeFits flash older s
    → OthersStay (but number) s (steps.resume flash number (Getting reading) (Page bytes) s).state
    × (GoesOnReading flash older number reading (steps.resume flash number (Getting reading) (Page bytes) s) ⊎ ReadIsOver flash older number reading s (steps.resume flash number (Getting reading) (Page bytes) s))

-- a read that failed loses its hash, unless the index entry changed
abbrev pub FailedReadTells : Type 0
FailedReadTells = (config : Config) (flash : FlashConfig) (older : List Note) (number : ℕ) (reading : Reading) (s : Block) → config.flash ≡ Some flash → 0 < flash.page → work_of number s.jobs ≡ Some (Getting reading) → LargeFits flash older s
    → LargeKeeps config flash older (WasRead (read_page flash reading) None ∷ told (steps.resume flash number (Getting reading) Failed s).outcome) s (steps.resume flash number (Getting reading) Failed s).state

pub record ReadFails (flash : FlashConfig) (number : ℕ) (reading : Reading) (s : Block) (moved : Moved) : Type 0 where
  pub over : IsOver number moved
  pub answer : moved.outcome.answer ≡ Absent
  pub losses : moved.outcome.losses ≡ (if is_place (place_at (kept_of flash.bits reading.key) s.index) reading.place then steps.lost loss.Fault (kept_of flash.bits reading.key ∷ []) else [])

abbrev pub FailedReadGives : Type 0
FailedReadGives = (flash : FlashConfig) (older : List Note) (number : ℕ) (reading : Reading) (s : Block) → work_of number s.jobs ≡ Some (Getting reading) → LargeFits flash older s
    → OthersStay (but number) s (steps.resume flash number (Getting reading) Failed s).state × ReadFails flash number reading s (steps.resume flash number (Getting reading) Failed s)
