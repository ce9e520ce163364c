-- What follows for runs over any device.
use Rattle.std.specs.Prelude.{◌≡◌, ℕ, ◌++◌, List, [], take, length, Option, None}
use Rattle.hc_types.specs.Config.{Config}
use Rattle.hc_types.specs.Limits.{first_wrong}
use Rattle.hc_history.specs.Note.{Note}
use Rattle.hc_history.specs.Lawful.{Legal}
use Rattle.hc_history.specs.Honest.{Honest}
use Rattle.hc_machine.specs.Schedule.{Step, Scene, Told, new_scene, all_of}
use Rattle.hc_follows.specs.Follows.{Follows, StopsAt}
use Rattle.hc_theorem.specs.runs.Schedule.{AllStepSized}
use Rattle.hc_run.specs.Runs.{Chain, IsRun, ends_from, IsRunOf}
use Rattle.hc_run.specs.Shows.{Stands}

-- steps one after another, from a new cache, are a run of the machine
abbrev pub ChainsAreRuns : Type 0
ChainsAreRuns = (config : Config) (steps : List Step) (answers : List Told) (parts : List (List Note)) (new : Scene) → Chain (new_scene config []) steps answers parts new → IsRun config steps answers parts new

-- behind any run, a page that is to be read is known, and the cache knows each slot's handle
abbrev pub RunsStand : Type 0
RunsStand = (config : Config) (steps : List Step) (answers : List Told) (parts : List (List Note)) (new : Scene) → first_wrong config ≡ None → AllStepSized steps → IsRun config steps answers parts new → Stands new

-- The run follows its steps, as far as it came: what is told in each step's part, up to its end, and last what is told
-- where the slots are given up.
pub record FollowsBy (config : Config) (steps : List Step) (answers : List Told) (ends : List ℕ) (log : List Note) (stopped : Option ℕ) : Type 0 where
  pub parts : List (List Note)
  pub last : List Note
  pub ended : ends ≡ ends_from 0 parts
  pub told : log ≡ all_of parts ++ last
  pub follows : Follows config steps answers parts last stopped

-- what is promised of any run over any device
pub record Promised (config : Config) (steps : List Step) (answers : List Told) (ends : List ℕ) (log : List Note) (stopped : Option ℕ) : Type 0 where
  pub legal : Legal config log
  pub honest : Honest log
  pub follows : FollowsBy config steps answers ends log stopped

-- it is kept by a run of all steps, or of those before the one where it stopped
abbrev pub RunsKeepPromise : Type 0
RunsKeepPromise = (config : Config) (steps : List Step) (answers : List Told) (ends : List ℕ) (log : List Note) (stopped : Option ℕ) → first_wrong config ≡ None
    → AllStepSized (take (length answers) steps) → StopsAt stopped (length answers) (length steps) → IsRunOf config (take (length answers) steps) answers ends log
    → Promised config steps answers ends log stopped
