-- Where two texts differ.
use Rattle.std.specs.Prelude.{ℕ, ◌+◌, ◌==◌, List, [], ◌∷◌, Option, Some, None, if◌then◌else◌}

-- The line of the first byte in which they differ, or at which one of them ends, where they begin in this line.
abbrev pub difference_from : ℕ → List ℕ → List ℕ → Option ℕ
difference_from line [] [] = None
difference_from line [] (y ∷ ys) = Some line
difference_from line (x ∷ xs) [] = Some line
difference_from line (x ∷ xs) (y ∷ ys) = if x == y then difference_from (line + (if x == 10 then 1 else 0)) xs ys else Some line

-- the same, where they begin in line 1
abbrev pub line_of_difference : List ℕ → List ℕ → Option ℕ
line_of_difference xs ys = difference_from 1 xs ys
