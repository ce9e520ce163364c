-- Quiet runs over any device.
use Rattle.std.specs.Prelude.{◌≡◌, ℕ, Bool, List, ◌++◌, Option, Some, take, drop, length}
use Rattle.std.specs.List.{list_all}
use Rattle.hc_types.specs.Config.{Config}
use Rattle.hc_engines.specs.Engine.{Pages}
use Rattle.hc_history.specs.Note.{Note}
use Rattle.hc_machine.specs.Nvm.{Job}
use Rattle.hc_machine.specs.Cache.{Cache}
use Rattle.hc_machine.specs.Schedule.{Step, Scene, Told, new_scene, run, log_of}
use Rattle.hc_machine.specs.Quiet.{is_own, jobs_in, AllQuiet, BreaksQuiet}
use Rattle.hc_run.specs.Shows.{Stage}
use Rattle.hc_run.specs.Going.{IsOngoing}
use Rattle.hc_run.specs.Runs.{ends_from}
use Rattle.hc_run.specs.declared.runs.Stopped.{Stopped}
use Rattle.hc_run.specs.declared.runs.Stopped.TheVariants as stops

-- each job that is out is the step's
abbrev pub is_quiet_in : Step → Cache → Bool
is_quiet_in s cache = list_all (λ (job : Job). is_own job.number s.deed) (jobs_in cache.nvm)

-- where the run stopped by itself, the next step isn't quiet
abbrev pub StopsQuietly : Option Stopped → List Step → Scene → Type 0
StopsQuietly (Some (stops.NotQuiet place)) steps scene = BreaksQuiet (drop place steps) scene
StopsQuietly stopped steps scene = Unit {0}

-- a run of which each step so far was quiet
pub record IsQuiet (held : Pages) (config : Config) (steps : List Step) (answers : List Told) (ends : List ℕ) (stage : Stage) : Type 0 where
  pub ongoing : IsOngoing held config steps answers ends stage
  pub quiet : (later : List Bool) → AllQuiet steps (new_scene config (ongoing.run.broke ++ later))

-- The answers, the ends of the parts and the log are those of the machine's run of the steps that were made. Each of these was
-- quiet, and where the run stopped by itself, the next isn't.
pub record IsQuietRunOf (config : Config) (steps : List Step) (answers : List Told) (ends : List ℕ) (log : List Note) (stopped : Option Stopped) : Type 0 where
  pub breaks : List Bool
  pub answered : answers ≡ (run config breaks (take (length answers) steps)).answers
  pub ended : ends ≡ ends_from 0 (run config breaks (take (length answers) steps)).parts
  pub told : log ≡ log_of (run config breaks (take (length answers) steps))
  pub all_quiet : AllQuiet (take (length answers) steps) (new_scene config breaks)
  pub stops : StopsQuietly stopped steps (run config breaks (take (length answers) steps)).scene
