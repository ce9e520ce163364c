-- What is true between two steps of a schedule: of the cache with its device, of the slots, and of what is open.
use Rattle.std.specs.Prelude.{◌≡◌, ℕ, ◌+◌, ◌≤◌, Bool, true, List, [], ◌∷◌}
use Rattle.hc_types.specs.Config.{Config}
use Rattle.hc_types.specs.Tally.{count}
use Rattle.hc_machine.specs.items.Items.{open_has}
use Rattle.hc_history.specs.Note.{Note}
use Rattle.hc_machine.specs.Cache.{Cache}
use Rattle.hc_machine.specs.Calls.{is_known}
use Rattle.hc_machine.specs.Schedule.{Slot, Scene, Step, is_slot, all_of, run}
use Rattle.hc_invariant.specs.Good.{CanRun, fills_of}
use Rattle.hc_theorem.specs.runs.Between.{Between}
use Rattle.hc_theorem.specs.runs.Schedule.{AllStepSized}
use Rattle.hc_theorem.specs.slots.Opens.{holds, AllOpen, adds_in}

-- the cache knows each slot's handle
abbrev pub AllKnown : Cache → List Slot → Type 0
AllKnown cache [] = Unit {0}
AllKnown cache (slot ∷ slots) = (is_known cache slot.handle ≡ true) × AllKnown cache slots

pub record BetweenScene (config : Config) (log : List Note) (scene : Scene) : Type 0 where
  pub between : Between config log scene.world
  -- no two slots have one number, and none has another's handle
  pub one_slot : (n : ℕ) → count (is_slot n) scene.slots ≤ 1
  pub one_handle : (n : ℕ) → count (holds n) scene.slots ≤ 1
  -- each slot's handle is one that the cache gave out: its charge is open, with that key, pool and length, and is no add's
  pub open_slots : AllOpen scene.world.cache.memory.charges scene.slots
  pub known : AllKnown scene.world.cache scene.slots
  -- each open charge is one slot's, or is kept by one add that waits
  pub held : (n : ℕ) → count (open_has n) scene.world.cache.memory.charges ≡ count (holds n) scene.slots + adds_in (fills_of scene.world.cache.nvm) n

abbrev pub SchedulesAreBetween : Type 0
SchedulesAreBetween = (config : Config) (breaks : List Bool) (steps : List Step) → CanRun config → AllStepSized steps → BetweenScene config (all_of (run config breaks steps).parts) (run config breaks steps).scene
