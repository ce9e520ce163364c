-- Lists of regions' numbers.
use Rattle.std.specs.Prelude.{ℕ, ◌<◌, List, [], ◌∷◌, ⊤}

-- each is the number of one of so many regions
abbrev pub AllThere : ℕ → List ℕ → Type 0
AllThere n [] = ⊤
AllThere n (r ∷ rs) = (r < n) × AllThere n rs
