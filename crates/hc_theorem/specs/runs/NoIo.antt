-- What a part of a step leaves of the jobs and of the device: nothing is read or written but by a result that is handed in.
use Rattle.std.specs.Prelude.{◌≡◌, ℕ, ◌==◌, Bool, true, false, List, ◌∷◌, Option, Some}
use Rattle.hc_engines.specs.Engine.{Order, IoResult}
use Rattle.hc_history.specs.Note.{Note, Read, Wrote}
use Rattle.hc_machine.specs.Nvm.{Nvm}
use Rattle.hc_machine.specs.Takes.{result_note}
use Rattle.hc_machine.specs.Cache.{Cache, Moved}
use Rattle.hc_machine.specs.Call.{CacheCall, Finishes}
use Rattle.hc_machine.specs.World.{order_in}
use Rattle.hc_laws.specs.First.{NonePasses}

-- a page is read or written
abbrev pub is_io : Note → Bool
is_io (Read page result) = true
is_io (Wrote page bytes is_written) = true
is_io note = false

-- the notes tell of no read and no write
abbrev pub NoIo : List Note → Type 0
NoIo notes = NonePasses is_io notes

-- each job goes on with its order
abbrev pub KeepsOrders : Option Nvm → Option Nvm → Type 0
KeepsOrders old new = (n : ℕ) (order : Order) → order_in old n ≡ Some order → order_in new n ≡ Some order

-- a call that hands in no result
abbrev pub HandsInNothing : CacheCall → Type 0
HandsInNothing (Finishes number result) = ⊥
HandsInNothing call = Unit {0}

-- and what such a call leaves
pub record NoIoStep (cache : Cache) (moved : Moved) : Type 0 where
  pub silent : NoIo moved.part
  pub orders : KeepsOrders cache.nvm moved.cache.nvm

-- a result of the job's order is handed in: that is told first, and the other jobs go on with their orders
pub record FinishStep (cache : Cache) (number : ℕ) (order : Order) (result : IoResult) (moved : Moved) : Type 0 where
  pub rest : List Note
  pub told : moved.part ≡ result_note order result ∷ rest
  pub silent : NoIo rest
  pub orders : (n : ℕ) (other : Order) → (n == number) ≡ false → order_in cache.nvm n ≡ Some other → order_in moved.cache.nvm n ≡ Some other
