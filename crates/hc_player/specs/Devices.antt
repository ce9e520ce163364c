-- What comes of an operation of a device in memory.
use Rattle.std.specs.Prelude.{◌≡◌, ℕ, Bool}
use Rattle.hc_engines.specs.Engine.{Order, IoResult, pages_after}
use Rattle.hc_flash.specs.Devices.{Memory, held_by}
use Rattle.hc_machine.specs.World.{result_of}

-- it is made, or fails: this comes of it, and its pages are so then
pub record Comes (order : Order) (fails : Bool) (old : Memory) (result : IoResult) (new : Memory) : Type 0 where
  pub result_is : result ≡ result_of order fails (held_by old)
  pub pages : (page : ℕ) → held_by new page ≡ pages_after order result (held_by old) page
