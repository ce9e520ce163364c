-- How contracts see the steps of BigHash's jobs.
use Rattle.std.specs.Prelude.{◌≡◌, ℕ, Option, Some, None, length, ⊤}
use Rattle.hc_bighash.specs.declared.jobs.Phase.{Phase as Phases}
use Rattle.hc_bighash.specs.declared.jobs.Phase.TheVariants as phases
use Rattle.hc_bighash.specs.declared.plans.Plan.{Plan as Plans}
use Rattle.hc_bighash.specs.declared.plans.Plan.TheVariants as plans
use Rattle.hc_bighash.specs.declared.turns.Turn.{Turn as Turns}
use Rattle.hc_bighash.specs.declared.turns.Turn.TheVariants as turns
use Rattle.hc_engines.specs.small.Bloom.{word_of}
use Rattle.hc_engines.specs.small.BigHash.{Phase, Reading, Writing, Plan, ToRead, ToWrite, ToEnd, ToKeep, ToGiveUp}
use Rattle.hc_bighash.specs.Paged.{entries_on}
use Rattle.hc_engines.specs.Seen.{answer_of}

abbrev pub phase_of : {A : Type 0} → Phases A → Phase
phase_of phases.Reading = Reading
phase_of (phases.Writing page losses) = Writing (entries_on page) losses.items

abbrev pub plan_of : {A : Type 0} → Plans A → Plan
plan_of plans.Read = ToRead
plan_of (plans.Write page losses) = ToWrite (entries_on page) losses.items
plan_of (plans.End answer) = ToEnd (answer_of answer)
plan_of plans.GiveUp = ToGiveUp

-- its page was being written
abbrev pub IsKept : Phase → Option Plan → Type 0
IsKept Reading planned = ⊥
IsKept (Writing entries losses) planned = planned ≡ Some (ToKeep (word_of entries) losses)

-- what a result means for a job in this phase
abbrev pub IsTurn : {A : Type 0} → Turns A → Phase → Option Plan → Type 0
IsTurn (turns.Go plan) phase planned = planned ≡ Some (plan_of plan)
IsTurn turns.Keep phase planned = IsKept phase planned
IsTurn turns.Unknown phase planned = planned ≡ None

-- what is to be written is a page of this size
abbrev pub PlanFits : {A : Type 0} → ℕ → Plans A → Type 0
PlanFits size plans.Read = ⊤
PlanFits size (plans.Write page losses) = length page ≡ size
PlanFits size (plans.End answer) = ⊤
PlanFits size plans.GiveUp = ⊤

abbrev pub TurnFits : {A : Type 0} → ℕ → Turns A → Type 0
TurnFits size (turns.Go plan) = PlanFits size plan
TurnFits size turns.Keep = ⊤
TurnFits size turns.Unknown = ⊤
