-- A cache over any device that it is lent, and the scene of the machine that it shows.
use Rattle.std.specs.Prelude.{◌≡◌, ℕ, ◌≤◌, List, Some}
use Rattle.hc_history.specs.Note.{Note}
use Rattle.hc_history.specs.Told.{Heard, told_more}
use Rattle.hc_engines.specs.Engine.{Pages, Read}
use Rattle.hc_machine.specs.Cache.{Cache}
use Rattle.hc_machine.specs.World.{Result, order_in, result_at}
use Rattle.hc_machine.specs.Schedule.{Slot, Scene, Step, Told}
use Rattle.hc_invariant.specs.Good.{fills_of}
use Rattle.hc_shards.specs.Parts.{held_in}
use Rattle.hc_theorem.specs.runs.Between.{IsKnown}
use Rattle.hc_theorem.specs.runs.Schedule.{DeedSized}
use Rattle.hc_theorem.specs.slots.Opens.{Opens, adds_in}
use Rattle.hc_run.specs.Steps.{Goes}

-- the pages of a device that are a cache's: so many, from this one on
pub record Window : Type 0 where
  pub first : ℕ
  pub pages : ℕ

-- all pages of a device, of which each has a number of 32 bits
abbrev pub whole : Window
whole = record { first = 0; pages = 4294967296 }

-- what is held of the cache's pages, which it numbers from 0
abbrev pub seen : Window → Pages → Pages
seen window held = held_in window.first window.pages held

-- The cache and what is heard of its log, which pages of the device are its own, how often an operation of it has
-- failed otherwise than by its step, the results that wait, and the slots that are filled, in order. The device is
-- lent.
pub record Stage : Type 0 where
  pub cache : Cache
  pub log : Heard
  pub window : Window
  pub failures : ℕ
  pub results : List Result
  pub slots : List Slot

-- each page that is known is held so
abbrev pub IsWithin : Pages → Pages → Type 0
IsWithin pages held = (page : ℕ) (bytes : List ℕ) → pages page ≡ Some bytes → held page ≡ Some bytes

-- the stage shows the scene, over a device that holds its pages so: each as the machine knows it, if it does
pub record Shows (held : Pages) (stage : Stage) (scene : Scene) : Type 0 where
  pub cache : scene.world.cache ≡ stage.cache
  pub results : (job : ℕ) → result_at job scene.world.results ≡ result_at job stage.results
  pub slots : scene.slots ≡ stage.slots
  pub failures : scene.world.failures ≡ stage.failures
  pub pages : IsWithin scene.world.pages held

-- each page that is to be read is known
abbrev pub IsReadable : Scene → Type 0
IsReadable scene = (job page : ℕ) → order_in scene.world.cache.nvm job ≡ Some (Read page) → IsKnown (scene.world.pages page)

-- what fills the slots is the cache's own, each with a charge of its own, and no other charge is open but those of
-- adds that wait
abbrev pub AreOwn : List Slot → Cache → Type 0
AreOwn slots cache = Opens slots (adds_in (fills_of cache.nvm)) cache.memory.charges

-- what holds between two steps
pub record Stands (scene : Scene) : Type 0 where
  pub reads : IsReadable scene
  pub own : AreOwn scene.slots scene.world.cache

-- a step from this scene, and the scene behind it that the stage shows
pub record Leads (old : Scene) (s : Step) (told : Told) (part : List Note) (held : Pages) (stage : Stage) : Type 0 where
  pub new : Scene
  pub goes : Goes old s told part new
  pub shows : Shows held stage new

-- The stage takes a step, and is told this: from whatever scene it showed, as the machine does.
pub record Moves (before : Pages) (old : Stage) (s : Step) (told : Told) (after : Pages) (new : Stage) : Type 0 where
  pub part : List Note
  pub log : new.log ≡ told_more old.log part
  pub sized : DeedSized s.deed
  pub leads : (scene : Scene) → Shows before old scene → IsReadable scene → Leads scene s told part after new

-- The stage takes no step: the scenes that it shows are the same, and nothing is heard.
pub record Waits (before : Pages) (old : Stage) (after : Pages) (new : Stage) : Type 0 where
  pub log : new.log ≡ old.log
  pub shows : (scene : Scene) → Shows before old scene → Shows after new scene
