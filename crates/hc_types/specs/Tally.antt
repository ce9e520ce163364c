-- Sums and counts over a list.
use Rattle.std.specs.Prelude.{ℕ, ◌+◌, Bool, List, [], ◌∷◌, if◌then◌else◌}

-- the sum of f over a list
abbrev pub tally : {X : Type 0} → (X → ℕ) → List X → ℕ
tally f [] = 0
tally f (x ∷ xs) = f x + tally f xs

-- how many of a list pass
abbrev pub count : {X : Type 0} → (X → Bool) → List X → ℕ
count test xs = tally (λ x. if test x then 1 else 0) xs
