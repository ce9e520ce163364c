-- What a key's copies on flash need, where there is flash.
use Rattle.std.specs.Prelude.{ℕ, Bool, List, Option, Some, None, ⊤}
use Rattle.hc_machine.specs.Nvm.{Nvm}
use Rattle.hc_nvm.specs.Outdating.{Serves}
use Rattle.hc_nvm.specs.declared.outdating.Outdating.{Outdating}

-- the plan has what the key needs in this state
abbrev pub ServesIn : {A : Type 0} → Bool → List ℕ → Option Nvm → Outdating A → Type 0
ServesIn keeps key None plan = ⊤
ServesIn keeps key (Some nvm) plan = Serves keeps key nvm plan

-- and in any state
abbrev pub ServesAlways : {A : Type 0} → Bool → List ℕ → Outdating A → Type 0
ServesAlways keeps key plan = (nvm : Nvm) → Serves keeps key nvm plan
