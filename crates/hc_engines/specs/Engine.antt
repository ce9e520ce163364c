-- What an engine on flash is asked, what it answers, and what the answer says of the entries that the engine holds.
use Rattle.std.specs.Prelude.{◌≡◌, ℕ, Bool, true, false, ◌==◌, ◌&&◌, List, [], length, Option, Some, None, if◌then◌else◌, ◌⊎◌, ⊤}
use Rattle.std.specs.List.{list_any}
use Rattle.std.specs.Str.{bytes_eq}
use Rattle.hc_types.specs.declared.config.FlashConfig.{FlashConfig}
use Rattle.hc_types.specs.Loss.{Scope, Cause, NoCleanRegion, covers}
use Rattle.hc_types.specs.FlashEntry.{FlashEntry}
-- (the words of a device, for whoever speaks of an engine)
pub use Rattle.hc_flash.specs.Operations.{Order, Read, Write, IoResult, Page, Written, Failed, Pages, with_page, pages_after}

-- an operation
pub data Op : Type 0 where
  Put : (entry : FlashEntry) → Op
  Get : (key : List ℕ) → Op
  Delete : (key : List ℕ) → Op
  -- the next sealed region is written
  Flush : Op
  -- the oldest region on flash is given up
  Reclaim : Op

pub data Answer : Type 0 where
  -- there was nothing to do, or it isn't over yet
  Nothing : Answer
  -- what was asked is over: a put or a delete that was done, a page of a region that was written or not, a reclaim
  Over : Answer
  Absent : Answer
  Found : (entry : FlashEntry) → Answer

-- what is forgotten, and why
pub record Loss : Type 0 where
  pub scope : Scope
  pub cause : Cause

-- what holds from here on
pub record Outcome : Type 0 where
  pub answer : Answer
  pub losses : List Loss
  -- the region that was opened, is on flash now, is clean again
  pub opened : Option ℕ
  pub flushed : Option ℕ
  pub cleared : Option ℕ
  -- the region that a reclaim gave up
  pub reclaimed : Option ℕ

pub data Next : Type 0 where
  -- another job is in the way; nothing changed
  Busy : Next
  -- one page is to be read or written
  Io : (order : Order) (outcome : Outcome) → Next
  Done : (outcome : Outcome) → Next

abbrev pub outcome_of : Answer → List Loss → Outcome
outcome_of answer losses = record { answer = answer; losses = losses; opened = None; flushed = None; cleared = None; reclaimed = None }

abbrev pub nothing : Outcome
nothing = outcome_of Nothing []

-- ---- the device, as the log tells of it

-- a page that was read has the bytes that were last written
abbrev pub IsHonest : Order → IoResult → Pages → Type 0
IsHonest (Read page) (Page bytes) pages = pages page ≡ Some bytes
IsHonest (Read page) Written pages = ⊤
IsHonest (Read page) Failed pages = ⊤
IsHonest (Write page written) result pages = ⊤

-- ---- what an engine holds

-- what an engine holds: the entry that it answers for, by key
abbrev pub Holds : Type 0
Holds = List ℕ → Option FlashEntry

-- A loss takes out what it covers. The entry of a put that found no clean region was never held.
abbrev pub takes_out : Cause → Bool
takes_out NoCleanRegion = false
takes_out cause = true

abbrev pub is_lost : FlashConfig → List Loss → FlashEntry → Bool
is_lost flash losses e = list_any (λ loss. takes_out loss.cause && covers (Some flash) loss.scope e.key (length e.value)) losses

abbrev pub left_of : FlashConfig → List Loss → Option FlashEntry → Option FlashEntry
left_of flash losses None = None
left_of flash losses (Some e) = if is_lost flash losses e then None else Some e

-- what is held of a key after a put or a delete that is over, before its losses
abbrev pub changed : Op → Answer → List ℕ → Option FlashEntry → Option FlashEntry
changed (Put e) Over key was = if bytes_eq e.key key then Some e else was
changed (Delete k) Over key was = if bytes_eq k key then None else was
changed op answer key was = was

-- what an engine holds after an outcome
abbrev pub held_after : FlashConfig → Op → Outcome → Holds → Holds
held_after flash op outcome held key = left_of flash outcome.losses (changed op outcome.answer key (held key))

-- what a get answers of what it found
abbrev pub found : Option FlashEntry → Answer
found None = Absent
found (Some e) = Found e

-- a get that is over answers what is held of its key
abbrev pub Answers : Op → Answer → Holds → Type 0
Answers (Get key) answer held = answer ≡ found (held key)
Answers op answer held = ⊤

-- what came next changes what is held exactly by its outcome
abbrev pub Changes : FlashConfig → Op → Next → Holds → Holds → Type 0
Changes flash op Busy old new = (key : List ℕ) → new key ≡ old key
Changes flash op (Io order outcome) old new = (outcome.answer ≡ Nothing) × ((key : List ℕ) → new key ≡ held_after flash op outcome old key)
Changes flash op (Done outcome) old new = ((key : List ℕ) → new key ≡ held_after flash op outcome old key) × Answers op outcome.answer new

-- ---- the same for any engine

-- A get that is over answers what is held of its key, or what the engine may answer where an entry of its key, or a large
-- one of its kept hash, came or went since it began.
abbrev pub AnswersFor : (Answer → Type 0) → Op → Answer → Holds → Type 0
AnswersFor stale op answer held = Answers op answer held ⊎ stale answer

-- an engine in which nothing comes or goes while a get is under way
abbrev pub never : Answer → Type 0
never answer = ⊥

abbrev pub Does : (Answer → Type 0) → FlashConfig → Op → Next → Holds → Holds → Type 0
Does stale flash op Busy old new = (key : List ℕ) → new key ≡ old key
Does stale flash op (Io order outcome) old new = (outcome.answer ≡ Nothing) × ((key : List ℕ) → new key ≡ held_after flash op outcome old key)
Does stale flash op (Done outcome) old new = ((key : List ℕ) → new key ≡ held_after flash op outcome old key) × AnswersFor stale op outcome.answer new

-- an operation that is under way: what it is, and the device operation that it waits for
pub record UnderWay : Type 0 where
  pub op : Op
  pub order : Order

-- what is under way under a number once a call answered so
abbrev pub then_under_way : Op → Next → Option UnderWay
then_under_way op Busy = None
then_under_way op (Io order outcome) = Some (record { op = op; order = order })
then_under_way op (Done outcome) = None

-- a page is to be read only where it is known
abbrev pub IsKnown : Pages → Next → Type 0
IsKnown pages (Io (Read page) outcome) = (bytes : List ℕ) × (pages page ≡ Some bytes)
IsKnown pages (Io (Write page bytes) outcome) = ⊤
IsKnown pages Busy = ⊤
IsKnown pages (Done outcome) = ⊤

-- what a call keeps over the pages before it and after it: that the engine fits them, and what it holds, but for the outcome
pub record Serves {E : Type 0} (fits : E → Pages → Type 0) (held : E → Pages → Holds) (stale : Answer → Type 0) (flash : FlashConfig) (op : Op) (next : Next) (old : E) (before : Pages) (new : E) (after : Pages) : Type 0 where
  pub fit : fits new after
  pub does : Does stale flash op next (held old before) (held new after)
  pub known : IsKnown after next

-- the result is one of this order
abbrev pub Suits : Order → IoResult → Type 0
Suits (Read page) (Page bytes) = ⊤
Suits (Read page) Failed = ⊤
Suits (Read page) Written = ⊥
Suits (Write page bytes) Written = ⊤
Suits (Write page bytes) Failed = ⊤
Suits (Write page bytes) (Page read) = ⊥

-- an operation is under way that waits for such a result
abbrev pub Awaits : Option UnderWay → IoResult → Type 0
Awaits None result = ⊥
Awaits (Some w) result = Suits w.order result
