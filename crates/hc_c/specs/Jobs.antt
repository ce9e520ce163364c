-- What each call of a worker does, by the status that it answers.
use Rattle.std.specs.Prelude.{◌≡◌, ◌⊎◌, ℕ, true, false, Option, Some, None}
use Rattle.hc_types.specs.declared.refusal.Refusal.{Refusal}
use Rattle.hc_types.specs.declared.refusal.Refusal.TheVariants.{NoMemory, UnknownJob}
use Rattle.hc_engines.specs.Engine.{IoResult, Order, Read, Write}
use Rattle.hc_machine.specs.Cache.{Cache, Moved, Took, Reclaimed}
use Rattle.hc_machine.specs.Takes as takes
use Rattle.hc_machine.specs.Takes.{Take, Work}
use Rattle.hc_machine.specs.Workers.{reclaim, finish}
use Rattle.hc_machine.specs.World.{order_in}
use Rattle.hc_core.specs.Answers.{IsNextReply, is_work}
use Rattle.hc_core.specs.Logged.{Logged, IsCall}
use Rattle.hc_core.specs.Plain.{MayRefuse}
use Rattle.hc_leased.specs.Leased.{Leased, SameLeases}
use Rattle.hc_c.specs.Calls.{Buffer, Copies}
use Rattle.hc_c.specs.declared.jobs.Operation.{Operation}
use Rattle.hc_c.specs.declared.status.Status.{Status}
use Rattle.hc_c.specs.declared.status.Status.TheVariants.{Done, Refused, Idle, Finished}

-- a take is told, with the number of the job that goes on
abbrev pub TellsTake : Take → ℕ → ℕ → Status → Type 0
TellsTake takes.Idle was is status = (status ≡ Idle) × (is ≡ was)
TellsTake takes.Finished was is status = (status ≡ Finished) × (is ≡ was)
TellsTake (Work job order) was is status = (status ≡ Done) × (is ≡ job)

-- a job waits for an order
pub record Works (moved : Moved) (job : ℕ) (old new : Logged) : Type 0 where
  pub order : Order
  pub call : IsCall moved (Took (Work job order)) old new

-- what a worker takes: the number of the job that goes on is told
abbrev pub Takes : (Cache → Moved) → ℕ → ℕ → Status → Leased → Leased → Type 0
Takes step was is Done old new = Works (step old.logged.cache) is old.logged new.logged × SameLeases old new
Takes step was is Idle old new = IsCall (step old.logged.cache) (Took takes.Idle) old.logged new.logged × (SameLeases old new × (is ≡ was))
Takes step was is Finished old new = IsCall (step old.logged.cache) (Took takes.Finished) old.logged new.logged × (SameLeases old new × (is ≡ was))
Takes step was is (Refused refusal) old new = (new ≡ old) × ((refusal ≡ NoMemory) × (is ≡ was))
Takes step was is status old new = ⊥

pub record GivesUp (old new : Logged) : Type 0 where
  pub region : ℕ
  pub call : IsCall (reclaim old.cache) (Reclaimed (Some region)) old new

abbrev pub Reclaims : Status → Leased → Leased → Type 0
Reclaims Done old new = GivesUp old.logged new.logged × SameLeases old new
Reclaims Idle old new = IsCall (reclaim old.logged.cache) (Reclaimed None) old.logged new.logged × SameLeases old new
Reclaims (Refused refusal) old new = (new ≡ old) × (refusal ≡ NoMemory)
Reclaims status old new = ⊥

-- a job goes on, under whichever number the machine names
pub record GoesOn (moved : Moved) (old new : Logged) : Type 0 where
  pub job : ℕ
  pub works : Works moved job old new

-- what comes of a result that is handed in
abbrev pub Finishes : ℕ → IoResult → Status → Leased → Leased → Type 0
Finishes job came Done old new = GoesOn (finish job came old.logged.cache) old.logged new.logged × SameLeases old new
Finishes job came Idle old new = IsCall (finish job came old.logged.cache) (Took takes.Idle) old.logged new.logged × SameLeases old new
Finishes job came Finished old new = IsCall (finish job came old.logged.cache) (Took takes.Finished) old.logged new.logged × SameLeases old new
Finishes job came (Refused refusal) old new = (new ≡ old) × MayRefuse (finish job came old.logged.cache).answer refusal
Finishes job came status old new = ⊥

-- whether a worker that takes now finds something to do: nothing changes
abbrev pub HasWork : (Cache → Moved) → Status → Leased → Leased → Type 0
HasWork step Done old new = (new ≡ old) × (is_work (step old.logged.cache).answer ≡ true)
HasWork step Idle old new = (new ≡ old) × (is_work (step old.logged.cache).answer ≡ false)
HasWork step (Refused refusal) old new = (new ≡ old) × (refusal ≡ NoMemory)
HasWork step status old new = ⊥

-- the number of a call whose reply can be taken is told, where there is one: nothing changes
abbrev pub NamesReply : ℕ → ℕ → Status → Leased → Leased → Type 0
NamesReply was is Done old new = (new ≡ old) × IsNextReply old.logged.cache.owed (Some is)
NamesReply was is Idle old new = (new ≡ old) × (IsNextReply old.logged.cache.owed None × (is ≡ was))
NamesReply was is status old new = ⊥

-- ---- the device operation for which a job waits

abbrev pub TellsOrder : Order → Operation → Buffer → Buffer → Status → Type 0
TellsOrder (Read page) told was is status = (status ≡ Done) × ((told ≡ record { page = page; writes = false }) × (is ≡ was))
TellsOrder (Write page bytes) told was is status = (told ≡ record { page = page; writes = true }) × Copies bytes status was is

-- the operation is told, if the job waits for one
abbrev pub IsOrdered : Option Order → Operation → Operation → Buffer → Buffer → Status → Type 0
IsOrdered None before told was is status = (status ≡ Refused UnknownJob) × ((told ≡ before) × (is ≡ was))
IsOrdered (Some order) before told was is status = TellsOrder order told was is status

-- and nothing changes
abbrev pub Orders : ℕ → Operation → Operation → Buffer → Buffer → Status → Leased → Leased → Type 0
Orders job before told was is status old new = (new ≡ old) × IsOrdered (order_in old.logged.cache.nvm job) before told was is status
