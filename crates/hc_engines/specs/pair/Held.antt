-- What both engines hold together, when their state fits the pages, and what each call of the pair keeps and changes.
use Rattle.std.specs.Prelude.{◌≡◌, ◌≢◌, ℕ, ◌≤◌, ◌==◌, false, true, List, [], ◌∷◌, Option, Some, None, option_map, ◌⊎◌, ⊤, if◌then◌else◌}
use Rattle.hc_types.specs.declared.config.FlashConfig.{FlashConfig}
use Rattle.hc_types.specs.Loss.{Key, NoCleanRegion}
use Rattle.hc_types.specs.FlashEntry.{FlashEntry}
use Rattle.hc_engines.specs.Engine.{Op, Put, Get, Delete, Flush, Read, Write, IoResult, Answer, Nothing, Over, Absent, Next, Busy, Done, Pages, Holds, UnderWay, Does, IsKnown, IsHonest, Awaits, never, pages_after, then_under_way}
use Rattle.hc_engines.specs.small.BigHash.{job_at, is_ours, key_of}
use Rattle.hc_engines.specs.small.Sound.{Limits}
use Rattle.hc_engines.specs.small.Held as small
use Rattle.hc_engines.specs.small.Held.{StateFits}
use Rattle.hc_engines.specs.large.Entries.{IsLarge}
use Rattle.hc_engines.specs.large.Index.{place_at, is_place}
use Rattle.hc_engines.specs.large.Block.{Block, Reading, Work, Writing, Getting, work_of}
use Rattle.hc_engines.specs.large.Laws.{written_page, read_page}
use Rattle.hc_engines.specs.pair.Large.{large_held, LargeFits}
use Rattle.hc_engines.specs.pair.Pair.{Pair, Moved, new_pair, start, resume, could_have, take_index, hash_in, is_busy_for}

abbrev pub or_else : Option FlashEntry → Option FlashEntry → Option FlashEntry
or_else None other = other
or_else (Some e) other = Some e

-- what each engine of the pair holds
abbrev pub held_small : Pair → Pages → Holds
held_small pair pages = small.held pair.small pages

abbrev pub held_large : Pair → Pages → Holds
held_large pair pages = large_held pair.small.flash pair.large pages

-- the small engine's entry of a key where it has one, or else the large one's
abbrev pub held : Pair → Pages → Holds
held pair pages key = or_else (held_small pair pages key) (held_large pair pages key)

-- the state fits the pages
pub record PairFits (pair : Pair) (pages : Pages) : Type 0 where
  pub small : StateFits pair.small pages
  pub large : LargeFits pair.small.flash pair.large pages
  -- no number is that of two operations
  pub apart : (n : ℕ) → (job_at n pair.small.jobs ≡ None) ⊎ (work_of n pair.large.jobs ≡ None)

-- ---- where what is held together changes exactly by an outcome

-- no key is in both engines
abbrev pub OneHolder : Holds → Holds → Type 0
OneHolder in_small in_large = (key : List ℕ) → (in_small key ≡ None) ⊎ (in_large key ≡ None)

-- the engine that a put or a delete isn't sent to doesn't hold its key
abbrev pub IsAlone : FlashConfig → Op → Holds → Holds → Type 0
IsAlone flash (Put e) in_small in_large = (if is_ours flash (Put e) then in_large e.key else in_small e.key) ≡ None
IsAlone flash (Delete key) in_small in_large = in_large key ≡ None
IsAlone flash op in_small in_large = ⊤

pub record Able (pair : Pair) (pages : Pages) (op : Op) : Type 0 where
  pub one : OneHolder (held_small pair pages) (held_large pair pages)
  pub alone : IsAlone pair.small.flash op (held_small pair pages) (held_large pair pages)

-- ---- operations

-- what can be put
abbrev pub CanStart : Op → Type 0
CanStart (Put e) = IsLarge e
CanStart op = ⊤

-- what is under way in the large engine: a page that is written for a flush, or one that is read for a get
abbrev pub work_under_way : FlashConfig → Block → Work → UnderWay
work_under_way flash s (Writing r bytes) = record { op = Flush; order = Write (written_page flash r s) bytes }
work_under_way flash s (Getting reading) = record { op = Get reading.key; order = Read (read_page flash reading) }

abbrev pub large_under_way : FlashConfig → Block → ℕ → Option UnderWay
large_under_way flash s number = option_map (work_under_way flash s) (work_of number s.jobs)

abbrev pub first_of : Option UnderWay → Option UnderWay → Option UnderWay
first_of None other = other
first_of (Some w) other = Some w

-- the operation that is under way with this number, and the order that it waits for
abbrev pub under_way : Pair → ℕ → Option UnderWay
under_way pair number = first_of (small.under_way pair.small number) (large_under_way pair.small.flash pair.large number)

-- what is under way with each number after a call: its own operation until it is over, and the others as they were
abbrev pub Goes : ℕ → Op → Pair → Moved → Type 0
Goes number op old moved = (other : ℕ) → under_way moved.pair other ≡ (if other == number then then_under_way op moved.next else under_way old other)

-- a put or a delete that is over was carried out, unless the put found no clean region
abbrev pub IsCarriedOut : Op → Next → Type 0
IsCarriedOut (Put e) (Done outcome) = (outcome.answer ≡ Over) ⊎ ((outcome.answer ≡ Nothing) × (outcome.losses ≡ record { scope = Key e.key; cause = NoCleanRegion } ∷ []))
IsCarriedOut (Delete key) (Done outcome) = outcome.answer ≡ Over
IsCarriedOut op next = ⊤

-- A get that went on to the large engine may find nothing where an entry of its key came to the small one since, or where its
-- index entry isn't the one any more that it took.
pub record Passed (old new : Pair) (number : ℕ) (after : Pages) (answer : Answer) : Type 0 where
  pub reading : Reading
  pub gets : work_of number old.large.jobs ≡ Some (Getting reading)
  pub passed : (held_small new after reading.key ≢ None) ⊎ (is_place (place_at (hash_in old reading.key) old.large.index) reading.place ≡ false)
  pub absent : answer ≡ Absent

-- what a call keeps and changes
pub record PairServes (stale : Answer → Type 0) (op : Op) (old : Pair) (before : Pages) (moved : Moved) (after : Pages) : Type 0 where
  pub flash : moved.pair.small.flash ≡ old.small.flash
  pub fit : PairFits moved.pair after
  -- what is held changes exactly by the outcome, and a get that is over answers what is held
  pub does : Able old before op → Does stale old.small.flash op moved.next (held old before) (held moved.pair after)
  -- no key is in both engines then
  pub one : Able old before op → OneHolder (held_small moved.pair after) (held_large moved.pair after)
  pub known : IsKnown after moved.next
  pub carried_out : IsCarriedOut op moved.next

-- ---- the laws

-- a new pair fits whatever the pages have, and holds nothing
abbrev pub NewFits : Type 0
NewFits = (flash : FlashConfig) (pages : Pages) → Limits flash → 1 ≤ flash.region_pages → PairFits (new_pair flash) pages × ((key : List ℕ) → held (new_pair flash) pages key ≡ None)

abbrev pub StartServes : Type 0
StartServes = (pair : Pair) (pages : Pages) (number : ℕ) (op : Op) → PairFits pair pages → under_way pair number ≡ None → CanStart op → PairServes never op pair pages (start number op pair) pages

-- over pages that are read as they were written
abbrev pub ResumeServes : Type 0
ResumeServes = (pair : Pair) (pages : Pages) (number : ℕ) (result : IoResult) (w : UnderWay) (moved : Moved) → PairFits pair pages → under_way pair number ≡ Some w → resume number result pair ≡ Some moved → IsHonest w.order result pages
    → PairServes (Passed pair moved.pair number (pages_after w.order result pages)) w.op pair pages moved (pages_after w.order result pages)

-- a started operation is under way with its order until it is over, and the others stay as they are
abbrev pub StartGoes : Type 0
StartGoes = (pair : Pair) (pages : Pages) (number : ℕ) (op : Op) → PairFits pair pages → under_way pair number ≡ None → Goes number op pair (start number op pair)

-- an operation whose result is handed in goes on or is over, and the others stay as they are
abbrev pub ResumeGoes : Type 0
ResumeGoes = (pair : Pair) (pages : Pages) (number : ℕ) (result : IoResult) (w : UnderWay) (moved : Moved) → PairFits pair pages → under_way pair number ≡ Some w → resume number result pair ≡ Some moved → Goes number w.op pair moved

-- an operation is put off only where a job is on its key's bucket, and one whose result is handed in never is
abbrev pub BusyIsTrue : Type 0
BusyIsTrue = (pair : Pair) → ((number : ℕ) (op : Op) → (start number op pair).next ≡ Busy → is_busy_for pair (key_of op) ≡ true) × ((number : ℕ) (result : IoResult) (moved : Moved) → resume number result pair ≡ Some moved → moved.next ≢ Busy)

-- a result is refused exactly where no operation waits for such a one
abbrev pub ResumeAwaits : Type 0
ResumeAwaits = (pair : Pair) (number : ℕ) (result : IoResult) → (resume number result pair ≡ None → ¬ Awaits (under_way pair number) result) × ((moved : Moved) → resume number result pair ≡ Some moved → Awaits (under_way pair number) result)

-- a put, a delete, a flush or a reclaim changes the engine alone that it is sent to
abbrev pub OtherStays : Type 0
OtherStays = (pair : Pair) (number : ℕ) (op : Op) → ((key : List ℕ) → op ≢ Get key) → (is_ours pair.small.flash op ≡ true → (start number op pair).pair.large ≡ pair.large) × (is_ours pair.small.flash op ≡ false → (start number op pair).pair.small ≡ pair.small)

-- an index entry that is taken takes out what the large engine holds under keys of its hash, and nothing else
abbrev pub TakeTakes : Type 0
TakeTakes = (pair : Pair) (pages : Pages) (key : List ℕ) → PairFits pair pages
    → PairFits (take_index key pair) pages × ((other : List ℕ) → held_small (take_index key pair) pages other ≡ held_small pair pages other)
    × ((other : List ℕ) → held_large (take_index key pair) pages other ≡ (if hash_in pair other == hash_in pair key then None else held_large pair pages other))

-- each key that is held could be there
abbrev pub HeldIsTold : Type 0
HeldIsTold = (pair : Pair) (pages : Pages) (key : List ℕ) → PairFits pair pages → held pair pages key ≢ None → could_have pair key ≡ true
