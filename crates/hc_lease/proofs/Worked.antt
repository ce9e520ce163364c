-- A worked run of a service, by computing: what was loaded before a change isn't stored once the delete is answered.
use Rattle.std.proofs.Common.{◌≡◌, inl, ℕ, List, [], ◌∷◌, ◌++◌, Some, None, refl, arith, replicate}
use Rattle.std.specs.Hash.FoldHasher.{initial, write, folded_multiply, read_short}
use Rattle.hc_lease.specs.Service.{Load, World, Event, Commit, Delete, Lend, Ask, Keep, run, AllMay, Begins}

abbrev a : List ℕ
a = 97 ∷ []

-- a table of four slots
abbrev world : World
world = record { rows = λ key. 0; cached = λ key. None; stamps = record { count = 0; slots = replicate 4 0; adds = []; room = 0 }; lent = []; loads = [] }

-- one misses and loads the row, and another changes it and deletes the key, before the first stores what it has
abbrev early : Load
early = record { key = a; ticket = 0; least = 0 }

abbrev race : List Event
race = Lend ∷ Ask a 0 ∷ Commit a ∷ Delete a ∷ Keep early 0 ∷ []

-- who misses then loads the new row
abbrev late : Load
late = record { key = a; ticket = 1; least = 1 }

abbrev again : List Event
again = race ++ Lend ∷ Ask a 1 ∷ Keep late 1 ∷ []

nothing_stale : (run race world).cached a ≡ None
unfolding initial write folded_multiply read_short
nothing_stale = refl

new_at_last : (run again world).cached a ≡ Some 1
unfolding initial write folded_multiply read_short
new_at_last = refl

-- all that is asked of a service is met
begins : Begins world
begins = record { slots = omega arith; lent = refl; loads = refl }

all_may : AllMay again world
unfolding initial write folded_multiply read_short
all_may = (tt, (inl refl, (tt, (tt, ((inl refl, omega arith), (tt, (inl refl, ((inl refl, omega arith), tt))))))))
