-- Deletes under way: a key whose tombstone is taken is being deleted.
use Rattle.std.specs.Prelude.{◌≡◌, ℕ, Bool, true, false, ◌||◌, List, Option, Some, None}
use Rattle.std.specs.List.{list_any}
use Rattle.std.specs.Str.{bytes_eq}
use Rattle.hc_machine.specs.Nvm.{Nvm, Task, Deleting, Job}
use Rattle.hc_machine.specs.Schedule.{Deed, Scene, does}
use Rattle.hc_invariant.specs.Jobs.{is_taken, JobsRun}

abbrev pub deletes : List ℕ → Task → Bool
deletes key (Deleting k) = bytes_eq k key
deletes key task = false

abbrev pub is_deleting : List ℕ → List Job → Bool
is_deleting key jobs = list_any (λ (job : Job). deletes key job.task) jobs

abbrev pub StonesRun : Nvm → Type 0
StonesRun nvm = (key : List ℕ) → is_taken key nvm.tombstones ≡ true → is_deleting key nvm.jobs ≡ true

-- the same but for the key that this task deletes
abbrev pub StonesBut : Task → Nvm → Type 0
StonesBut task nvm = (key : List ℕ) → is_taken key nvm.tombstones ≡ true → (deletes key task || is_deleting key nvm.jobs) ≡ true

-- ---- through the steps of a schedule

abbrev pub StonesOf : Option Nvm → Type 0
StonesOf None = Unit {0}
StonesOf (Some nvm) = StonesRun nvm

abbrev pub JobsOf : Option Nvm → Type 0
JobsOf None = Unit {0}
JobsOf (Some nvm) = JobsRun nvm

-- each step keeps it, where the jobs run as the engines have them
abbrev pub StepKeepsStones : Type 0
StepKeepsStones = (client : ℕ) (deed : Deed) (scene : Scene) → JobsOf scene.world.cache.nvm → StonesOf scene.world.cache.nvm → StonesOf (does client deed scene).scene.world.cache.nvm
