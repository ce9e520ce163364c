-- The work of a worker, but for the memory: what it leaves of the queue and the fills, and of the jobs.
use Rattle.std.specs.Prelude.{◌≡◌, ℕ, ◌+◌, ◌<◌, ◌≤◌, ◌==◌, true, false, List, [], ◌∷◌, Option, Some, None}
use Rattle.hc_types.specs.Tally.{count}
use Rattle.hc_types.specs.FlashEntry.{FlashEntry}
use Rattle.hc_engines.specs.Engine.{Op, Get}
use Rattle.hc_machine.specs.Nvm.{Nvm, Tombstone, Fill, is_job, is_stone_of, is_fill_of}
use Rattle.hc_machine.specs.Takes.{Filled, Taken}
use Rattle.hc_invariant.specs.LargeAlone.{LargeAlone}
use Rattle.hc_invariant.specs.Structure.{AllAsk, brings, operations}
use Rattle.hc_proof.specs.calls.Serving.{ghost}
use Rattle.hc_proof.specs.structure.Parts.{Beside, FewerPuts, FewerFills, FewerWait}

-- ---- jobs

-- the jobs stand, but for the operation with this number, which has just come or is about to go
pub record Under (nvm : Nvm) (number : ℕ) : Type 0 where
  pub one_job : (n : ℕ) → count (is_job n) nvm.jobs ≤ 1
  pub one_each : (n : ℕ) → count (brings n) nvm.fills ≤ 1
  pub fresh : (n : ℕ) → nvm.made < n → (n == number) ≡ false → count (is_job n) nvm.jobs + (count (brings n) nvm.fills + operations nvm.pair n) ≡ 0
  pub asks : AllAsk nvm.pair nvm.fills
  pub large : LargeAlone nvm.pair.small.flash nvm.pair.large

-- the operation with this number is a get of the key of each fill that it is to bring
abbrev pub AskedIf : Op → ℕ → List ℕ → Option ℕ → Type 0
AskedIf op number key None = Unit {0}
AskedIf op number key (Some n) = (n == number) ≡ true → op ≡ Get key

abbrev pub AllAsked : Op → ℕ → List Fill → Type 0
AllAsked op number [] = Unit {0}
AllAsked op number (fill ∷ fills) = AskedIf op number fill.key fill.job × AllAsked op number fills

-- ---- what a take leaves

abbrev pub EntryIsOf : List ℕ → Option FlashEntry → Type 0
EntryIsOf key None = Unit {0}
EntryIsOf key (Some entry) = entry.key ≡ key

-- the fill of the key ended
pub record Ended (key : List ℕ) (filled : Filled) (old new : List Fill) : Type 0 where
  pub fills : FewerFills old (ghost key filled.waiters ∷ new)
  pub wait : FewerWait old (ghost key filled.waiters ∷ new)
  pub gone : count (is_fill_of key) new ≡ 0
  pub own : EntryIsOf key filled.entry

abbrev pub FilledSo : List Fill → List Fill → Option Filled → Type 0
FilledSo old new None = FewerFills old new × FewerWait old new
FilledSo old new (Some filled) = (key : List ℕ) × Ended key filled old new

pub record Leaves (old : Nvm) (taken : Taken) : Type 0 where
  pub puts : FewerPuts old.queue taken.nvm.queue
  pub fills : FilledSo old.fills taken.nvm.fills taken.filled
  pub beside : Beside (Some taken.nvm)
  pub flash : taken.nvm.pair.small.flash ≡ old.pair.small.flash

-- tombstones end, and no more
pub record Raised (old new : Nvm) : Type 0 where
  pub stones : List Tombstone
  pub same : new ≡ record old { tombstones = stones }
  pub fewer : (key : List ℕ) → count (is_stone_of key) stones ≤ count (is_stone_of key) old.tombstones
