-- Which piece of work a worker takes: the first that can be served.
use Rattle.std.specs.Prelude.{◌≡◌, ◌≢◌, ℕ, ◌+◌, Bool, not, ◌&&◌, ◌||◌, [], length, Option, Some, None, is_some, ⊤}
use Rattle.hc_types.specs.Places.{is_small_by}
use Rattle.hc_types.specs.FlashEntry.{FlashEntry}
use Rattle.hc_engines.specs.large.Choices.{Mark, flush_next, gone_out}
use Rattle.hc_engines.specs.pair.Pair.{by_large, is_busy_for}
use Rattle.hc_machine.specs.Nvm.{Nvm, Tombstone, Fill, Flushing}
use Rattle.hc_machine.specs.Takes.{Idle, Taken, launch_by, take_put, take_delete, take_fill}
use Rattle.hc_machine.specs.Cache.{Cache, Moved, Took, stays}
use Rattle.hc_machine.specs.Workers.{after_take, writer_take, filler_take}
use Rattle.hc_laws.specs.First.{NonePasses, IsFirst}

-- ---- what can be served

-- a put: a large one, or one whose bucket no job is on
abbrev pub can_put : Nvm → FlashEntry → Bool
can_put nvm put = not (is_small_by nvm.pair.small.flash put.key (length put.value)) || not (is_busy_for nvm.pair put.key)

-- a delete: one that wasn't taken, and whose bucket no job is on
abbrev pub can_delete : Nvm → Tombstone → Bool
can_delete nvm stone = not stone.taken && not (is_busy_for nvm.pair stone.key)

-- a fill: one without a job, and whose bucket no job is on
abbrev pub can_fill : Nvm → Fill → Bool
can_fill nvm fill = not (is_some fill.job) && not (is_busy_for nvm.pair fill.key)

-- the region whose page goes out next, and why, as the large engine chooses it
abbrev pub next_page : Nvm → Option (ℕ × Mark)
next_page nvm = flush_next nvm.pair.small.flash nvm.pair.large

-- ---- whose turn it is

-- what the writer serves
pub data Piece : Type 0 where
  -- the next page of a region, and why it goes out
  APage : (region : ℕ) (mark : Mark) → Piece
  ADelete : (stone : Tombstone) → Piece
  APut : (put : FlashEntry) → Piece

-- pages come before deletes, and deletes before puts
abbrev pub IsTurn : Nvm → Piece → Type 0
IsTurn nvm (APage region mark) = next_page nvm ≡ Some (region, mark)
IsTurn nvm (ADelete stone) = (next_page nvm ≡ None) × IsFirst (can_delete nvm) nvm.tombstones stone
IsTurn nvm (APut put) = (next_page nvm ≡ None) × NonePasses (can_delete nvm) nvm.tombstones × IsFirst (can_put nvm) nvm.queue put

pub record NothingToWrite (nvm : Nvm) : Type 0 where
  pub no_page : next_page nvm ≡ None
  pub no_delete : NonePasses (can_delete nvm) nvm.tombstones
  pub no_put : NonePasses (can_put nvm) nvm.queue

-- the page goes out under the next number
abbrev pub page_goes : ℕ → Mark → Nvm → Taken
page_goes region mark nvm = launch_by Flushing (by_large nvm.pair [] (gone_out nvm.pair.small.flash (nvm.made + 1) region mark nvm.pair.large)) nvm

-- what it does with a piece
abbrev pub written : Piece → Nvm → Taken
written (APage region mark) nvm = page_goes region mark nvm
written (ADelete stone) nvm = take_delete (Some stone) nvm
written (APut put) nvm = take_put (Some put) nvm

abbrev pub IsFillsTurn : Nvm → Fill → Type 0
IsFillsTurn nvm fill = IsFirst (can_fill nvm) nvm.fills fill

abbrev pub NothingToFill : Nvm → Type 0
NothingToFill nvm = NonePasses (can_fill nvm) nvm.fills

abbrev pub filled : Fill → Nvm → Taken
filled fill nvm = take_fill (Some fill) nvm

-- ---- the takes

-- there is no flash, or nothing to do there
abbrev pub NothingOn : (Nvm → Type 0) → Option Nvm → Type 0
NothingOn nothing None = ⊤
NothingOn nothing (Some nvm) = nothing nvm

-- A worker's take: it serves the piece whose turn it is, and then it isn't idle; it is idle exactly where there is nothing, and
-- then nothing happens.
pub record ServesTheFirst {P : Type 0} (turn : Nvm → P → Type 0) (nothing : Nvm → Type 0) (serve : P → Nvm → Taken) (cache : Cache) (moved : Moved) : Type 0 where
  pub serves : (nvm : Nvm) (piece : P) → cache.nvm ≡ Some nvm → turn nvm piece → moved ≡ after_take (serve piece nvm) cache
  pub works : (nvm : Nvm) (piece : P) → cache.nvm ≡ Some nvm → turn nvm piece → moved.answer ≢ Took Idle
  pub idles : NothingOn nothing cache.nvm → moved ≡ stays (Took Idle) cache
  pub idle_only : moved.answer ≡ Took Idle → NothingOn nothing cache.nvm

abbrev pub WriterServesTheFirst : Type 0
WriterServesTheFirst = (cache : Cache) → ServesTheFirst IsTurn NothingToWrite written cache (writer_take cache)

abbrev pub FillerServesTheFirst : Type 0
FillerServesTheFirst = (cache : Cache) → ServesTheFirst IsFillsTurn NothingToFill filled cache (filler_take cache)
