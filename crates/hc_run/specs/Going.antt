-- A run that goes on.
use Rattle.std.specs.Prelude.{◌≡◌, ℕ, List, [], ◌∷◌, ◌++◌, length}
use Rattle.hc_types.specs.Config.{Config}
use Rattle.hc_engines.specs.Engine.{Pages}
use Rattle.hc_history.specs.Note.{Note}
use Rattle.hc_history.specs.Told.{Heard, Log}
use Rattle.hc_machine.specs.Schedule.{Step, Scene, Told, all_of}
use Rattle.hc_theorem.specs.runs.Schedule.{AllStepSized}
use Rattle.hc_run.specs.Shows.{Stage, Shows, Moves}
use Rattle.hc_run.specs.Runs.{IsRun, ends_from}

abbrev pub log_length : Heard → ℕ
log_length (Log log) = length log
log_length heard = 0

-- one step more, with its answer and the end of its part
pub record GoesOn (before : Pages) (old : Stage) (answers : List Told) (ends : List ℕ) (s : Step) (after : Pages) (new : Stage) (answers' : List Told) (ends' : List ℕ) : Type 0 where
  pub told : Told
  pub moves : Moves before old s told after new
  pub answered : answers' ≡ answers ++ told ∷ []
  pub ended : ends' ≡ ends ++ log_length new.log ∷ []

-- the steps so far, their answers, and where each ends in the log, are a run of the machine, whose scene the stage shows
pub record IsOngoing (held : Pages) (config : Config) (steps : List Step) (answers : List Told) (ends : List ℕ) (stage : Stage) : Type 0 where
  pub parts : List (List Note)
  pub scene : Scene
  pub run : IsRun config steps answers parts scene
  pub shows : Shows held stage scene
  pub log : stage.log ≡ Log (all_of parts)
  pub ended : ends ≡ ends_from 0 parts
  pub sized : AllStepSized steps
