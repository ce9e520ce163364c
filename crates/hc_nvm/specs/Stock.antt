-- What waits for flash and comes from it, as contracts see it, and what holds of it at every time.
use Rattle.std.specs.Prelude.{ℕ, ◌+◌, ◌≤◌, List, [], ◌∷◌, Option, Some, None, length, ⊤}
use Rattle.hc_types.specs.declared.config.FlashConfig.{FlashConfig}
use Rattle.hc_types.specs.FlashEntry.{FlashEntry}
use Rattle.hc_engines.specs.Engine.{Put}
use Rattle.hc_engines.specs.pair.Below.{IsBelow}
use Rattle.hc_pair.specs.Joined.{CanStart}
use Rattle.hc_machine.specs.Nvm.{Nvm, Fill, Job}
use Rattle.hc_nvm.specs.Fetching.{AreServed}

-- its machine's state, and for how many more puts, tombstones and fills there is room
pub record Stock : Type 0 where
  pub nvm : Nvm
  pub puts : ℕ
  pub stones : ℕ
  pub fills : ℕ

-- each can be put
abbrev pub AllCanStart : FlashConfig → List FlashEntry → Type 0
AllCanStart flash [] = ⊤
AllCanStart flash (put ∷ puts) = CanStart flash (Put put) × AllCanStart flash puts

-- their numbers rise, from low on, up to made
abbrev pub AreNumbered : ℕ → ℕ → List Job → Type 0
AreNumbered low made [] = low ≤ made + 1
AreNumbered low made (job ∷ jobs) = (low ≤ job.number) × AreNumbered (job.number + 1) made jobs

abbrev pub IsUpTo : ℕ → Option ℕ → Type 0
IsUpTo made None = ⊤
IsUpTo made (Some job) = job ≤ made

-- each is brought by a job that was made
abbrev pub AreBrought : ℕ → List Fill → Type 0
AreBrought made [] = ⊤
AreBrought made (fill ∷ fills) = IsUpTo made fill.job × AreBrought made fills

-- what holds at every time
pub record Kept (nvm : Nvm) : Type 0 where
  pub below : IsBelow (nvm.made + 1) nvm.pair
  pub starts : AllCanStart nvm.pair.small.flash nvm.queue
  pub short : length nvm.queue ≤ nvm.pair.small.flash.queue
  pub numbered : AreNumbered 1 nvm.made nvm.jobs
  pub brought : AreBrought nvm.made nvm.fills
  -- what is under way for a job that brings a key is a get that reads a page
  pub served : AreServed nvm.pair nvm.jobs
