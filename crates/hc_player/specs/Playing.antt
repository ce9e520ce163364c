-- What contracts see of a cache over a device in memory, and what a line does to it.
use Rattle.std.specs.Prelude.{◌≡◌, List, [], Some}
use Rattle.hc_flash.specs.Devices.{Memory, held_by}
use Rattle.hc_history.specs.Told.{Heard, told_more}
use Rattle.hc_trace_text.specs.Steps.{Answer}
use Rattle.hc_machine.specs.Cache.{Cache, Moved}
use Rattle.hc_machine.specs.World.{World, Result}
use Rattle.hc_trace_meaning.specs.Actions.{Action, answer_of, act}
use Rattle.hc_player.specs.Alike.{Alike}

-- the machine's cache, what is heard of its log, its device, and the results that wait
pub record Playing : Type 0 where
  pub cache : Cache
  pub log : Heard
  pub flash : Memory
  pub results : List Result

-- what the device holds of a page is what is known of it; it fails nothing by itself
abbrev pub world_of : Playing → World
world_of p = record { cache = p.cache; pages = held_by p.flash; results = p.results; breaks = []; failures = 0 }

-- A line does what the machine has it do, is answered as it is there, and tells the same.
pub record Acts (action : Action) (answer : Answer) (old new : Playing) : Type 0 where
  pub world : Alike (world_of new) (act action (world_of old)).world
  pub answered : (act action (world_of old)).answer ≡ Some answer
  pub log : new.log ≡ told_more old.log (act action (world_of old)).notes

-- A call of the cache is the machine's step, and is answered as it is there. The device and the results are as they were.
pub record Calls (moved : Moved) (answer : Answer) (old new : Playing) : Type 0 where
  pub cache : new.cache ≡ moved.cache
  pub answered : answer_of moved.answer ≡ Some answer
  pub log : new.log ≡ told_more old.log moved.part
  pub flash : new.flash ≡ old.flash
  pub results : new.results ≡ old.results
