-- Orders that are out: no other is about the page that one writes.
use Rattle.std.specs.Prelude.{◌≡◌, ◌≢◌, ℕ, ◌==◌, false, List, Option, Some}
use Rattle.hc_types.specs.declared.config.FlashConfig.{FlashConfig}
use Rattle.hc_engines.specs.Engine.{Order, Read, Write}
use Rattle.hc_history.specs.Note.{Note}
use Rattle.hc_machine.specs.Nvm.{Nvm}
use Rattle.hc_machine.specs.World.{order_in}
use Rattle.hc_follows.specs.Idle.{page_of}
use Rattle.hc_invariant.specs.Jobs.{JobsRun}
use Rattle.hc_invariant.specs.Good.{EnginesFit}

abbrev pub IsWrite : Order → Type 0
IsWrite (Read page) = ⊥
IsWrite (Write page bytes) = Unit {0}

-- the orders that are out
abbrev pub Alone : Option Nvm → Type 0
Alone nvm = (n m : ℕ) (write other : Order) → (n == m) ≡ false → order_in nvm n ≡ Some write → order_in nvm m ≡ Some other → IsWrite write → page_of other ≢ page_of write

abbrev pub OrdersAlone : Type 0
OrdersAlone = (flash : FlashConfig) (older : List Note) (nvm : Nvm) → EnginesFit flash older nvm → JobsRun nvm → Alone (Some nvm)
