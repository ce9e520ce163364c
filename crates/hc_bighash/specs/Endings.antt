-- How a get is over with a result that isn't handed in yet.
use Rattle.std.specs.Prelude.{◌≡◌, ℕ, Bool, true, false, Option, Some, None}
use Rattle.hc_types.specs.FlashEntry.{entry_of}
use Rattle.hc_engines.specs.Engine.{Answer, Nothing, Over, Absent, Found}
use Rattle.hc_engines.specs.small.BigHash.{BigHash, Plan, ToEnd, Moved, carried}
use Rattle.hc_bighash.specs.declared.endings.Ending.{Ending}
use Rattle.hc_bighash.specs.declared.endings.Ending.TheVariants as endings
use Rattle.hc_bighash.specs.Found.{get_answer, planned_answer}
use Rattle.hc_bighash.specs.Handed.{IsGet, op_in, absent_plan}

-- a get has looked: it found an entry, or there is none
abbrev pub has_looked : Answer → Bool
has_looked Absent = true
has_looked (Found e) = true
has_looked Nothing = false
has_looked Over = false

abbrev pub is_over : Option Answer → Bool
is_over None = false
is_over (Some answer) = has_looked answer

-- the plan by which it is over
abbrev pub ending_plan : {A : Type 0} → Ending A → Plan
ending_plan (endings.Found e) = ToEnd (Found (entry_of e.value))
ending_plan (endings.Absent gives_up) = absent_plan gives_up

abbrev pub IsPlanned : {A : Type 0} → Option Plan → Option (Ending A) → Type 0
IsPlanned planned None = is_over (planned_answer planned) ≡ false
IsPlanned planned (Some ending) = planned ≡ Some (ending_plan ending)

-- the step with a result, where it is the end of a get; else it is none
abbrev pub IsEnding : {A : Type 0} → BigHash → ℕ → Option Moved → Option (Ending A) → Type 0
IsEnding s number moved None = is_over (get_answer (op_in number s.jobs) moved) ≡ false
IsEnding s number moved (Some ending) = IsGet s number × (moved ≡ carried s number (ending_plan ending))
