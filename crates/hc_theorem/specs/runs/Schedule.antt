-- What every schedule comes to: its log is legal, and honest.
use Rattle.std.specs.Prelude.{Bool, List, [], ◌∷◌}
use Rattle.hc_types.specs.Config.{Config}
use Rattle.hc_history.specs.Lawful.{Legal}
use Rattle.hc_history.specs.Honest.{Honest}
use Rattle.hc_machine.specs.Schedule.{Deed, Open, Step, all_of, run, log_of}
use Rattle.hc_invariant.specs.Good.{IsSized, CanRun}

abbrev pub DeedSized : Deed → Type 0
DeedSized (Open slot pool key value ttl) = IsSized key [] 0
DeedSized deed = Unit {0}

abbrev pub AllStepSized : List Step → Type 0
AllStepSized [] = Unit {0}
AllStepSized (s ∷ steps) = DeedSized s.deed × AllStepSized steps

pub record ScheduleRight (config : Config) (breaks : List Bool) (steps : List Step) : Type 0 where
  -- the log is legal, with what is given up at the end and without it
  pub legal : Legal config (log_of (run config breaks steps))
  pub so_far : Legal config (all_of (run config breaks steps).parts)
  pub honest : Honest (log_of (run config breaks steps))

abbrev pub ScheduleIsRight : Type 0
ScheduleIsRight = (config : Config) (breaks : List Bool) (steps : List Step) → CanRun config → AllStepSized steps → ScheduleRight config breaks steps
