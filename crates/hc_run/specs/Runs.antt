-- Runs of any steps over any device.
use Rattle.std.specs.Prelude.{◌≡◌, ℕ, ◌+◌, Bool, List, [], ◌∷◌, ◌++◌, length}
use Rattle.hc_types.specs.Config.{Config}
use Rattle.hc_history.specs.Note.{Note}
use Rattle.hc_engines.specs.Engine.{Pages}
use Rattle.hc_machine.specs.World.{Says, Made}
use Rattle.hc_machine.specs.Schedule.{Step, Scene, Told, Tells, NoSlot, Filled, run, log_of}
use Rattle.hc_run.specs.Steps.{breaking, Goes}
use Rattle.hc_run.specs.Shows.{IsWithin}

-- from old, these steps are told this, tell these parts, and lead to new
abbrev pub Chain : Scene → List Step → List Told → List (List Note) → Scene → Type 0
Chain old [] [] [] new = new ≡ old
Chain old (s ∷ steps) (told ∷ answers) (part ∷ parts) new = (mid : Scene) × (Goes old s told part mid × Chain mid steps answers parts new)
Chain old steps answers parts new = ⊥

-- the machine's run of the steps, where the device fails so by itself, and whatever it does later
pub record IsRun (config : Config) (steps : List Step) (answers : List Told) (parts : List (List Note)) (new : Scene) : Type 0 where
  pub broke : List Bool
  pub ran : (later : List Bool) → run config (broke ++ later) steps ≡ record { scene = breaking later new; answers = answers; parts = parts }

-- where each part ends in the log
abbrev pub ends_from : ℕ → List (List Note) → List ℕ
ends_from at [] = []
ends_from at (part ∷ parts) = (at + length part) ∷ ends_from (at + length part) parts

-- The answers, the ends of the parts and the log are those of the machine's run of the steps, where the device fails so by
-- itself.
pub record IsRunOf (config : Config) (steps : List Step) (answers : List Told) (ends : List ℕ) (log : List Note) : Type 0 where
  pub breaks : List Bool
  pub answered : answers ≡ (run config breaks steps).answers
  pub ended : ends ≡ ends_from 0 (run config breaks steps).parts
  pub told : log ≡ log_of (run config breaks steps)

-- ---- the device

-- what a device is known to hold of each page, and how often it has failed
pub record Sight (Device : Type 0) : Type 0 where
  pub held : Device → Pages
  pub failed : Device → ℕ

-- how often the device has failed by itself, after so many failures and an answer
abbrev pub failures_by : ℕ → Told → ℕ
failures_by before (Tells (Says answer)) = before
failures_by before (Tells (Made result failures)) = failures
failures_by before NoSlot = before
failures_by before Filled = before

-- the same after all answers
abbrev pub failures_told : ℕ → List Told → ℕ
failures_told before [] = before
failures_told before (told ∷ answers) = failures_told (failures_by before told) answers

-- The device was handed in as old and comes back as new, after the operations of the machine's run of the steps, where it failed
-- so by itself.
pub record IsRunOver {Device : Type 0} (sight : Sight Device) (config : Config) (steps : List Step) (answers : List Told) (old new : Device) : Type 0 where
  pub breaks : List Bool
  pub answered : answers ≡ (run config breaks steps).answers
  -- it failed as often more as the answers tell
  pub counted : sight.failed new ≡ failures_told 0 answers + sight.failed old
  -- it holds each page as the run left it, where that is known
  pub held : IsWithin (run config breaks steps).scene.world.pages (sight.held new)
