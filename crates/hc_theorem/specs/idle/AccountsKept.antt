-- What the notes tell of regions, through the steps of a schedule.
use Rattle.std.specs.Prelude.{ℕ, List, Option, Some, None}
use Rattle.hc_types.specs.Config.{Config}
use Rattle.hc_types.specs.declared.config.FlashConfig.{FlashConfig}
use Rattle.hc_history.specs.Note.{Note}
use Rattle.hc_history.specs.Lawful.{past}
use Rattle.hc_machine.specs.Nvm.{Nvm}
use Rattle.hc_machine.specs.Schedule.{Deed, Scene, does}
use Rattle.hc_invariant.specs.Good.{Agrees}
use Rattle.hc_theorem.specs.idle.Accounted.{Accounted}

-- without flash there is nothing to tell
abbrev pub AccountsOf : Option FlashConfig → List Note → Option Nvm → Type 0
AccountsOf None older nvm = Unit {0}
AccountsOf (Some flash) older None = Unit {0}
AccountsOf (Some flash) older (Some nvm) = Accounted flash older nvm.pair.large

-- each step keeps it, where the books tell of the cache before the step
abbrev pub StepKeepsAccounts : Type 0
StepKeepsAccounts = (client : ℕ) (deed : Deed) (config : Config) (older : List Note) (scene : Scene) → Agrees config older scene.world.cache → AccountsOf config.flash older scene.world.cache.nvm
    → AccountsOf config.flash (past older (does client deed scene).part) (does client deed scene).scene.world.cache.nvm
