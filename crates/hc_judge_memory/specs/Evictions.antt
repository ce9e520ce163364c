-- What an eviction's note says by the note before it.
use Rattle.std.specs.Prelude.{ℕ, nat_lt, Bool, false, ◌&&◌, List, ◌∷◌, Option, Some, None}
use Rattle.hc_types.specs.Config.{Config}
use Rattle.hc_types.specs.Tally.{count}
use Rattle.hc_history.specs.Note.{Note, Freed}
use Rattle.hc_history.specs.Books.{Charge, charges, has_number, is_linked}
use Rattle.hc_legal.specs.Judge.{may_free}

-- the charge that the last note freed, and what was before it
abbrev pub last_freed : List Note → Option (ℕ × List Note)
last_freed (Freed number ∷ before) = Some (number, before)
last_freed older = None

-- a linked charge of the key has the number
abbrev pub is_link_of : ℕ → List ℕ → Charge → Bool
is_link_of number key charge = has_number number charge && is_linked key charge

abbrev pub is_freed_by : Option (ℕ × List Note) → List ℕ → Bool
is_freed_by None key = false
is_freed_by (Some freed) key = nat_lt 0 (count (is_link_of freed.0 key) (charges freed.1))

-- a linked charge of the number, which may be freed
abbrev pub is_free_linked : Config → List Note → ℕ → List Note → Charge → Bool
is_free_linked config older number rest charge = (has_number number charge && charge.linked) && may_free config older charge.key charge.pool rest
