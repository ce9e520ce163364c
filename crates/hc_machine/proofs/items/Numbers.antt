-- The charge with a number has it.
use Rattle.std.proofs.Common.{◌≡◌, ℕ, Bool, true, false, List, [], ◌∷◌, Option, Some, refl, ap, sym, ◌∙◌}
use mathlib.Core.Bool.{cond}
use Rattle.std.proofs.lemmas.Bool.{eqb-true}
use Rattle.hc_memory.specs.Item.{Open}
use Rattle.hc_memory.specs.Charges as pools

number_step : (number : ℕ) (c d : Open) (o : Option Open) (b : Bool) → pools.has_number number d ≡ b → (o ≡ Some c → c.number ≡ number) → cond b (Some d) o ≡ Some c → c.number ≡ number
number_step number c d o true e h found = let same : d ≡ c = cc in sym (ap (λ (x : Open). x.number) same) ∙ sym (eqb-true number d.number e)
number_step number c d o false e h found = h found

-- the charge with a number has it
pub number-is : (number : ℕ) (opens : List Open) (c : Open) → pools.charge_at number opens ≡ Some c → c.number ≡ number
number-is number [] c found = absurd cc
number-is number (d ∷ opens) c found = number_step number c d (pools.charge_at number opens) (pools.has_number number d) refl (number-is number opens c) found
