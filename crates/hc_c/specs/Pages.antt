-- Pages that are handed in and out by their handles.
use Rattle.std.specs.Prelude.{◌≡◌, ℕ, true, false, List, Option, Some, None}
use Rattle.hc_types.specs.declared.refusal.Refusal.TheVariants.{NoMemory, UnknownJob}
use Rattle.hc_engines.specs.Engine.{Page, Order, Read, Write}
use Rattle.hc_machine.specs.World.{order_in}
use Rattle.hc_leased.specs.Leased.{Leased}
use Rattle.hc_c.specs.declared.jobs.Operation.{Operation}
use Rattle.hc_c.specs.declared.reading.Reading.{Reading}
use Rattle.hc_c.specs.declared.status.Status.{Status}
use Rattle.hc_c.specs.declared.status.Status.TheVariants.{Done, Refused, Empty}
use Rattle.hc_c.specs.Jobs.{Finishes}
use Rattle.hc_c.specs.Values.{holding}

-- the handle has a page of these bytes, or none when out of memory
abbrev pub Holds : List ℕ → Option Reading → Status → Type 0
Holds bytes is Done = is ≡ holding bytes
Holds bytes is (Refused refusal) = (refusal ≡ NoMemory) × (is ≡ None)
Holds bytes is status = ⊥

-- The page of the handle is handed in, and the handle has none then. Where it is refused, the handle keeps it.
abbrev pub HandsIn : ℕ → Option Reading → Option Reading → Status → Leased → Leased → Type 0
HandsIn job None is status old new = (status ≡ Empty) × ((is ≡ None) × (new ≡ old))
HandsIn job (Some was) is (Refused refusal) old new = (is ≡ Some was) × Finishes job (Page was.bytes) (Refused refusal) old new
HandsIn job (Some was) is status old new = (is ≡ None) × Finishes job (Page was.bytes) status old new

-- an operation is told, with a handle to the page that is to be written
abbrev pub TellsPage : Order → Operation → Operation → Option Reading → Status → Type 0
TellsPage (Read page) before told is status = (status ≡ Done) × ((told ≡ record { page = page; writes = false }) × (is ≡ None))
TellsPage (Write page bytes) before told is Done = (told ≡ record { page = page; writes = true }) × (is ≡ holding bytes)
TellsPage (Write page bytes) before told is status = (status ≡ Refused NoMemory) × ((told ≡ before) × (is ≡ None))

-- the same, if the job waits for one
abbrev pub HandsOut : Option Order → Operation → Operation → Option Reading → Status → Type 0
HandsOut None before told is status = (status ≡ Refused UnknownJob) × ((told ≡ before) × (is ≡ None))
HandsOut (Some order) before told is status = TellsPage order before told is status

-- and nothing changes
abbrev pub HandsOrder : ℕ → Operation → Operation → Option Reading → Status → Leased → Leased → Type 0
HandsOrder job before told is status old new = (new ≡ old) × HandsOut (order_in old.logged.cache.nvm job) before told is status
