-- The device through each kind of step.
use Rattle.std.specs.Prelude.{◌≡◌, ℕ, Bool, List, Some, None}
use Rattle.hc_engines.specs.Engine.{Order, IoResult}
use Rattle.hc_history.specs.Note.{Note}
use Rattle.hc_history.specs.Pages.{bytes_at}
use Rattle.hc_history.specs.Lawful.{past}
use Rattle.hc_machine.specs.Cache.{Moved}
use Rattle.hc_machine.specs.World.{World, order_in, result_at, without_result, result_of, made, by_call}
use Rattle.hc_invariant.specs.Good.{DeviceTells, IsResult}
use Rattle.hc_theorem.specs.runs.NoIo.{NoIoStep, FinishStep}
use Rattle.hc_theorem.specs.runs.Alone.{Alone}

-- a call that hands in no result
abbrev pub CallKeepsDevice : Type 0
CallKeepsDevice = (older : List Note) (world : World) (moved : Moved) → NoIoStep world.cache moved → DeviceTells older world → DeviceTells (past older moved.part) (by_call world moved).world

-- a job's operation is made
abbrev pub IoKeepsDevice : Type 0
IoKeepsDevice = (older : List Note) (world : World) (job : ℕ) (order : Order) (fails : Bool) → Alone world.cache.nvm → order_in world.cache.nvm job ≡ Some order → result_at job world.results ≡ None
    → DeviceTells older world → DeviceTells older (made world job order (result_of order fails world.pages)).world

-- a result that waits is one of its job's order
abbrev pub WaitingIsResult : Type 0
WaitingIsResult = (older : List Note) (world : World) (job : ℕ) (result : IoResult) → result_at job world.results ≡ Some result → DeviceTells older world → IsResult (bytes_at older) (order_in world.cache.nvm job) result

-- it is handed in
abbrev pub FinishKeepsDevice : Type 0
FinishKeepsDevice = (older : List Note) (world : World) (job : ℕ) (order : Order) (result : IoResult) (moved : Moved) → Alone world.cache.nvm → order_in world.cache.nvm job ≡ Some order → result_at job world.results ≡ Some result
    → FinishStep world.cache job order result moved → DeviceTells older world → DeviceTells (past older moved.part) (by_call (record world { results = without_result job world.results }) moved).world
