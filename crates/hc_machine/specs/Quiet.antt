-- Quiet schedules: while a job is out, each step is its own. A run of any steps stops before the first that isn't quiet.
use Rattle.std.specs.Prelude.{◌≡◌, ℕ, suc, ◌==◌, Bool, true, false, List, [], ◌∷◌, take, drop, Option, Some, None, option_map, if◌then◌else◌}
use Rattle.std.specs.List.{list_all}
use Rattle.hc_types.specs.Config.{Config}
use Rattle.hc_history.specs.Note.{Note}
use Rattle.hc_machine.specs.Nvm.{Nvm, Job}
use Rattle.hc_machine.specs.Schedule.{Deed, Io, Finish, Step, Scene, new_scene, Told, Done, step, Ran}

-- the step makes this job's operation, or hands in its result
abbrev pub is_own : ℕ → Deed → Bool
is_own number (Io job fails) = job == number
is_own number (Finish job) = job == number
is_own number deed = false

abbrev pub jobs_in : Option Nvm → List Job
jobs_in None = []
jobs_in (Some nvm) = nvm.jobs

-- each job that is out is the step's
abbrev pub is_quiet : Step → Scene → Bool
is_quiet s scene = list_all (λ (job : Job). is_own job.number s.deed) (jobs_in scene.world.cache.nvm)

-- what was run, and before which step it stopped, where one isn't quiet
pub record QuietRan : Type 0 where
  pub ran : Ran
  pub stopped : Option ℕ

abbrev pub quiet_on : (Scene → QuietRan) → Done → QuietRan
quiet_on f done = joined done.told done.part (f done.scene)
  where
    joined : Told → List Note → QuietRan → QuietRan
    joined told part rest = record { ran = record { scene = rest.ran.scene; answers = told ∷ rest.ran.answers; parts = part ∷ rest.ran.parts }; stopped = option_map suc rest.stopped }

-- a run that takes no step
abbrev pub unmoved : Scene → Ran
unmoved scene = record { scene = scene; answers = []; parts = [] }

abbrev pub run_quiet_from : List Step → Scene → QuietRan
run_quiet_from [] scene = record { ran = unmoved scene; stopped = None }
run_quiet_from (s ∷ steps) scene = if is_quiet s scene then quiet_on (run_quiet_from steps) (step s scene) else record { ran = unmoved scene; stopped = Some 0 }

abbrev pub run_quiet : Config → List Bool → List Step → QuietRan
run_quiet config breaks steps = run_quiet_from steps (new_scene config breaks)

-- ---- what it says of the steps

-- the steps that are made
abbrev pub steps_made : Option ℕ → List Step → List Step
steps_made None steps = steps
steps_made (Some number) steps = take number steps

-- each of the steps is quiet when it comes
abbrev pub AllQuiet : List Step → Scene → Type 0
AllQuiet [] scene = Unit {0}
AllQuiet (s ∷ steps) scene = (is_quiet s scene ≡ true) × AllQuiet steps (step s scene).scene

-- the first of these steps isn't quiet here
abbrev pub BreaksQuiet : List Step → Scene → Type 0
BreaksQuiet [] scene = ⊥
BreaksQuiet (s ∷ steps) scene = is_quiet s scene ≡ false

abbrev pub StopsAt : Option ℕ → List Step → Scene → Type 0
StopsAt None steps scene = Unit {0}
StopsAt (Some number) steps scene = BreaksQuiet (drop number steps) scene
