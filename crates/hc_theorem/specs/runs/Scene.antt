-- What holds between two steps of a schedule: the invariant of a run, and sizes of what the slots hold.
use Rattle.std.specs.Prelude.{List, [], ◌∷◌}
use Rattle.hc_types.specs.Config.{Config}
use Rattle.hc_history.specs.Note.{Note}
use Rattle.hc_machine.specs.Schedule.{Slot, Scene}
use Rattle.hc_invariant.specs.Good.{IsSized, GoodRun}

abbrev pub SlotsSized : List Slot → Type 0
SlotsSized [] = Unit {0}
SlotsSized (slot ∷ slots) = IsSized slot.handle.key slot.handle.value slot.handle.expiry × SlotsSized slots

pub record SceneHolds (config : Config) (log : List Note) (scene : Scene) : Type 0 where
  pub holds : GoodRun config log scene.world
  pub sized : SlotsSized scene.slots
