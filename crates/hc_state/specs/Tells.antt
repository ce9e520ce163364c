-- What is told of a part of a step.
use Rattle.std.specs.Prelude.{ℕ, List, [], ◌∷◌, Option, Some, None}
use Rattle.hc_history.specs.Note.{Note, Freed}

-- the note that frees a charge, where there is one
abbrev pub freed_notes : Option ℕ → List Note
freed_notes None = []
freed_notes (Some number) = Freed number ∷ []
