-- What comes of an operation of a device.
use Rattle.std.specs.Prelude.{◌≡◌, ℕ, ◌+◌, ◌≤◌, Bool, true, false, ◌||◌}
use Rattle.hc_engines.specs.Engine.{Pages, Order, Read, Write, IoResult, Page, Written, Failed, pages_after}
use Rattle.hc_machine.specs.World.{result_of}
use Rattle.hc_theorem.specs.runs.Between.{IsKnown}
use Rattle.hc_run.specs.Shows.{Window, IsWithin, whole}

-- a page that is to be read is known
abbrev pub CanRead : Order → Pages → Type 0
CanRead (Read page) pages = IsKnown (pages page)
CanRead (Write page bytes) pages = Unit {0}

-- The operation is made, unless the step fails it: whatever is known of the pages, this comes of it, and what is known
-- of them then the device holds. It breaks where it failed otherwise than by its step.
pub record Comes (order : Order) (fails breaks : Bool) (before : Pages) (result : IoResult) (after : Pages) : Type 0 where
  pub comes : (pages : Pages) → IsWithin pages before → CanRead order pages → result ≡ result_of order (fails || breaks) pages
  pub within : (pages : Pages) → IsWithin pages before → CanRead order pages → IsWithin (pages_after order result pages) after

-- the device holds what it held
abbrev pub IsSame : Pages → Pages → Type 0
IsSame before after = (page : ℕ) → after page ≡ before page

-- ---- failures

-- the operation failed
abbrev pub is_failed : IoResult → Bool
is_failed Failed = true
is_failed (Page bytes) = false
is_failed Written = false

-- it failed, and its step didn't fail it
abbrev pub broke : Bool → IoResult → Bool
broke true result = false
broke false result = is_failed result

abbrev pub one_if : Bool → ℕ
one_if true = 1
one_if false = 0

-- The device's count grew from before to after, and a stage's from old to new. Whatever the device counted, the stage
-- has counted; and nothing else, where each page is the stage's own. (A page that isn't fails without the device.)
pub record Counts (window : Window) (before after old new : ℕ) : Type 0 where
  pub most : after + old ≤ before + new
  pub each : window ≡ whole → after + old ≡ before + new
