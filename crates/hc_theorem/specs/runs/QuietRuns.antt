-- Quiet runs: such a run is that of the steps up to where it stopped, and its log is legal, and honest.
use Rattle.std.specs.Prelude.{◌≡◌, Bool, List}
use Rattle.hc_types.specs.Config.{Config}
use Rattle.hc_history.specs.Lawful.{Legal}
use Rattle.hc_history.specs.Honest.{Honest}
use Rattle.hc_machine.specs.Schedule.{Step, Scene, Ran, run_from, all_of, log_of}
use Rattle.hc_machine.specs.Quiet.{QuietRan, run_quiet_from, run_quiet, steps_made, AllQuiet, StopsAt}
use Rattle.hc_invariant.specs.Good.{CanRun}
use Rattle.hc_theorem.specs.runs.Schedule.{AllStepSized}

pub record QuietSo (steps : List Step) (scene : Scene) (quiet : QuietRan) : Type 0 where
  -- it is the run of the steps that were made
  pub same : quiet.ran ≡ run_from (steps_made quiet.stopped steps) scene
  -- each of them was quiet, and the next isn't
  pub all_quiet : AllQuiet (steps_made quiet.stopped steps) scene
  pub stops : StopsAt quiet.stopped steps quiet.ran.scene

abbrev pub QuietRunsAreRuns : Type 0
QuietRunsAreRuns = (steps : List Step) (scene : Scene) → QuietSo steps scene (run_quiet_from steps scene)

-- the log is legal, with what is given up at the end and without it, and honest
pub record RanRight (config : Config) (ran : Ran) : Type 0 where
  pub legal : Legal config (log_of ran)
  pub so_far : Legal config (all_of ran.parts)
  pub honest : Honest (log_of ran)

abbrev pub QuietRunIsRight : Type 0
QuietRunIsRight = (config : Config) (breaks : List Bool) (steps : List Step) → CanRun config → AllStepSized steps → RanRight config (run_quiet config breaks steps).ran
