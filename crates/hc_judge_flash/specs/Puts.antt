-- Where in a log a large put is told.
use Rattle.std.specs.Prelude.{Bool, true, false, List, ◌∷◌}
use Rattle.hc_history.specs.Note.{Note, Unqueued, Opened}

-- the history before the opening of a region, where that comes last
abbrev pub before_opening : List Note → List Note
before_opening (Opened region ∷ older) = older
before_opening older = older

-- the note opens a region
abbrev pub is_opening : Note → Bool
is_opening (Opened region) = true
is_opening note = false

-- the note takes a key out of the queue
abbrev pub is_unqueuing : Note → Bool
is_unqueuing (Unqueued key) = true
is_unqueuing note = false
