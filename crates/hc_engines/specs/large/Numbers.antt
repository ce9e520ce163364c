-- Lists of numbers, and tests of numbers.
use Rattle.std.specs.Prelude.{ℕ, zero, suc, ◌+◌, ◌==◌, Bool, true, false, List, [], ◌∷◌, if◌then◌else◌}

-- how many numbers below n pass
abbrev pub how_many : (ℕ → Bool) → ℕ → ℕ
how_many test zero = 0
how_many test (suc n) = how_many test n + (if test n then 1 else 0)

-- x comes before r in the list
abbrev pub is_before : List ℕ → ℕ → ℕ → Bool
is_before [] x r = false
is_before (y ∷ ys) x r = if y == r then false else (if y == x then true else is_before ys x r)

abbrev pub is_in : ℕ → List ℕ → Bool
is_in r [] = false
is_in r (x ∷ xs) = if x == r then true else is_in r xs

-- all but r
abbrev pub minus : ℕ → List ℕ → List ℕ
minus r [] = []
minus r (x ∷ xs) = if x == r then minus r xs else x ∷ minus r xs
