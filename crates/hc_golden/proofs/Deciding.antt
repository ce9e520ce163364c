-- There is no line in which two texts differ exactly where they are equal.
use Rattle.std.proofs.Common.{◌≡◌, ◌≢◌, ℕ, ◌+◌, ◌==◌, Bool, true, false, List, [], ◌∷◌, Option, Some, None, MatchOption, refl, length, ◌<◌, arith}
use mathlib.Core.Bool.{cond}
use Rattle.hc_golden.specs.Difference.{difference_from}

decides_more : (x y : ℕ) (xs ys : List ℕ) (line : Option ℕ) → x ≡ y → MatchOption line (xs ≡ ys) (λ _. xs ≢ ys) → MatchOption line ((x ∷ xs) ≡ (y ∷ ys)) (λ _. (x ∷ xs) ≢ (y ∷ ys))
decides_more x y xs ys None same rest = cc
decides_more x y xs ys (Some line) same rest = λ all. let later : xs ≡ ys = cc in rest later

decides_step : (line x y : ℕ) (xs ys : List ℕ) (b : Bool) → (x == y) ≡ b → MatchOption (difference_from (line + cond (x == 10) 1 0) xs ys) (xs ≡ ys) (λ _. xs ≢ ys)
    → MatchOption (cond b (difference_from (line + cond (x == 10) 1 0) xs ys) (Some line)) ((x ∷ xs) ≡ (y ∷ ys)) (λ _. (x ∷ xs) ≢ (y ∷ ys))
decides_step line x y xs ys true e rest = decides_more x y xs ys (difference_from (line + cond (x == 10) 1 0) xs ys) (grind (arith, e)) rest
decides_step line x y xs ys false e rest = λ same. let eq : x ≡ y = cc in absurd (grind (arith, e, eq))

pub decides : (line : ℕ) (xs ys : List ℕ) → MatchOption (difference_from line xs ys) (xs ≡ ys) (λ _. xs ≢ ys)
decides line [] [] = refl
decides line [] (y ∷ ys) = λ same. absurd cc
decides line (x ∷ xs) [] = λ same. absurd cc
decides line (x ∷ xs) (y ∷ ys) = decides_step line x y xs ys (x == y) refl (decides (line + cond (x == 10) 1 0) xs ys)

-- a text that goes on differs from one that has ended
pub ended : (line : ℕ) (xs ys : List ℕ) → 0 < length xs → length ys ≡ 0 → difference_from line xs ys ≡ Some line
ended line (x ∷ xs) [] more none = refl
ended line [] ys more none = absurd (omega (arith, more))
ended line (x ∷ xs) (y ∷ ys) more none = absurd (omega (arith, none))
