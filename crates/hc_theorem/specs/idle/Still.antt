-- What a part of a step leaves alone: it reads and writes no page and opens no region; jobs and regions stay, and no more
-- tombstones are taken.
use Rattle.std.specs.Prelude.{◌≡◌, ℕ, Bool, true, false, List, Option}
use Rattle.hc_engines.specs.Engine.{Outcome}
use Rattle.hc_history.specs.Note.{Note, Read, Wrote, Opened}
use Rattle.hc_machine.specs.Nvm.{Nvm}
use Rattle.hc_machine.specs.Leaving.{Changed}
use Rattle.hc_machine.specs.Cache.{Cache, Moved}
use Rattle.hc_invariant.specs.Jobs.{is_taken}
use Rattle.hc_laws.specs.First.{NonePasses}
use Rattle.hc_laws.specs.Walking.{Across, LeavesStep, LeavesBehind}

-- a page is read or written, or a region opens
abbrev pub is_of_pages : Note → Bool
is_of_pages (Read page result) = true
is_of_pages (Wrote page bytes is_written) = true
is_of_pages (Opened region) = true
is_of_pages note = false

abbrev pub AllCalm : List Note → Type 0
AllCalm notes = NonePasses is_of_pages notes

pub record StillNvm (old new : Nvm) : Type 0 where
  pub flash : new.pair.small.flash ≡ old.pair.small.flash
  pub jobs : new.jobs ≡ old.jobs
  pub regions : new.pair.large.regions ≡ old.pair.large.regions
  pub current : new.pair.large.current ≡ old.pair.large.current
  pub sealed : new.pair.large.sealed ≡ old.pair.large.sealed
  pub flushed : new.pair.large.flushed ≡ old.pair.large.flushed
  pub taken : (key : List ℕ) → is_taken key new.tombstones ≡ true → is_taken key old.tombstones ≡ true

abbrev pub StillOption : Option Nvm → Option Nvm → Type 0
StillOption old new = Across StillNvm old new

-- a client's step, but a tick
abbrev pub StillStep : Cache → Moved → Type 0
StillStep cache moved = LeavesStep is_of_pages StillNvm cache moved.part moved.cache

-- what holds from an outcome on: the region that it opened is told first
abbrev pub StillBehind : Outcome → Nvm → Changed → Type 0
StillBehind outcome nvm change = LeavesBehind is_of_pages StillNvm outcome nvm change
