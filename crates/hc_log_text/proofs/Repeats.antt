-- One byte so many times.
use Rattle.std.proofs.Common.{◌≡◌, ℕ, zero, suc, nat_le, ◌==◌, Bool, true, false, not, ◌&&◌, replicate, refl, ap, ◌∙◌, arith, eq-eqb}
use Rattle.std.proofs.lemmas.Bool.{and_from}
use Rattle.std.proofs.lemmas.Bool.Decides.{nat_tests}
use Rattle.std.proofs.lemmas.List.{length-replicate}
use Rattle.std.specs.Char.{is_ascii_digit}
use Rattle.std.specs.List.{list_all}
use Rattle.hc_trace_text.specs.Texts.{is_repeated}

all-same : (n c : ℕ) → list_all (λ b. b == c) (replicate n c) ≡ true
all-same zero c = refl
all-same (suc n) c = and_from (c == c) _ (eq-eqb c c refl) (all-same n c)

and-true : (b : Bool) → (b && true) ≡ b
and-true b = elim b as (λ b. (b && true) ≡ b) [ true ↦ refl | false ↦ refl ]

three-four : (n : ℕ) → nat_le 3 n ≡ nat_le 4 (suc n)
three-four n = grind (arith, nat_tests)

pub repeated_is : (n c : ℕ) → is_repeated (replicate n c) ≡ (nat_le 4 n && not (is_ascii_digit c))
repeated_is zero c = refl
repeated_is (suc n) c =
    (λ i. nat_le 3 (length-replicate n c i) && not (is_ascii_digit c) && all-same n c i)
    ∙ and-true (nat_le 3 n && not (is_ascii_digit c))
    ∙ ap (λ b. b && not (is_ascii_digit c)) (three-four n)
