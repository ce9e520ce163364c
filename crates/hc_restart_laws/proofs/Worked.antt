-- A worked run of a service over a restart, by computing: what was loaded with a ticket of before isn't stored behind it, the row
-- that was kept is found, and one that was changed while the cache was down is found until its delete. All that the laws ask is met.
use Rattle.std.proofs.Common.{◌≡◌, inl, ℕ, true, false, List, [], ◌∷◌, Some, refl, arith, slice_index, replicate}
use Rattle.std.specs.Hash.FoldHasher.{initial, write, folded_multiply, read_short}
use Rattle.hc_types.specs.Config.{Config}
use Rattle.hc_memory.specs.Item.{Handle}
use Rattle.hc_history.specs.Note.{Hit, Miss}
use Rattle.hc_invariant.specs.Good.{IsSized}
use Rattle.hc_machine.specs.Cache.{Replied, new_cache}
use Rattle.hc_machine.specs.Calls.{find}
use Rattle.hc_machine.proofs.Tables.{no_flash}
use Rattle.hc_machine.specs.Call.{Allocates, Inserts, Removes, acts}
use Rattle.hc_theorem.proofs.runs.Running.{silent_honest}
use Rattle.hc_lease.specs.Stamps.{is_fresh, ticket_at}
use Rattle.hc_lease_log.specs.Rows.{MayStore}
use Rattle.hc_lease_steps.specs.Serving.{Commit, Calls, Lend, Ask, Service, new_service}
use Rattle.hc_restart_laws.specs.Runs.{Run, GoOn, told}
use Rattle.hc_restart_laws.specs.Serving.{Deed, Does, Restarts, run, calls_of, Serves, with_remove}

abbrev a : List ℕ
a = 97 ∷ []

-- the version of a row stands in its first byte
abbrev version : List ℕ → ℕ
version value = slice_index value 0

abbrev old : List ℕ
old = 0 ∷ []

abbrev new : List ℕ
new = 1 ∷ []

abbrev item : ℕ → List ℕ → Handle
item number value = record { number = number; pool = 0; key = a; expiry = 0; value = value }

-- one pool, and a table of four slots
abbrev config : Config
config = no_flash 1000 10

abbrev begins : Service
begins = new_service config (record { count = 0; slots = replicate 4 0; adds = []; room = 0 }) (λ key. 0)

-- the row is loaded and stored, and another loads it too; the cache is closed; the row is changed; and the cache goes on, with
-- two slots
abbrev earlier : List Deed
earlier = Does Lend ∷ Does (Ask a 0) ∷ Does (Calls (Allocates 0 a old 0)) ∷ Does (Calls (Inserts 0 (item 1 old))) ∷ Does Lend ∷ Does (Ask a 1) ∷ Does (Commit a) ∷ Restarts 2 ∷ []

-- who loads it behind the delete has the new row
abbrev later : List Deed
later = Does Lend ∷ Does (Ask a 3) ∷ Does (Calls (Allocates 0 a new 0)) ∷ Does (Calls (Inserts 1 (item 2 new))) ∷ []

abbrev deeds : List Deed
deeds = with_remove earlier 0 a later

-- the other's ticket is good until the restart, and no longer; the one that is handed out behind it is good until the delete
before_restart : List Deed
before_restart = Does Lend ∷ Does (Ask a 0) ∷ Does (Calls (Allocates 0 a old 0)) ∷ Does (Calls (Inserts 0 (item 1 old))) ∷ Does Lend ∷ Does (Ask a 1) ∷ Does (Commit a) ∷ []

good_before : is_fresh a 1 (run before_restart begins).world.stamps ≡ true
unfolding before_restart initial write folded_multiply read_short
good_before = refl

stale_behind : is_fresh a 1 (run earlier begins).world.stamps ≡ false
unfolding initial write folded_multiply read_short
stale_behind = refl

handed_out_behind : ticket_at (run earlier begins).world.stamps ≡ Some 2
unfolding initial write folded_multiply read_short
handed_out_behind = refl

good_behind : is_fresh a 2 (run earlier begins).world.stamps ≡ true
unfolding initial write folded_multiply read_short
good_behind = refl

stale_after_delete : is_fresh a 2 (run (with_remove earlier 0 a []) begins).world.stamps ≡ false
unfolding initial write folded_multiply read_short
stale_after_delete = refl

-- what was kept is found: it is old until its delete is repeated
found_behind : (find 0 a (run earlier begins).cache).answer ≡ Replied (Hit old)
found_behind = refl

not_found_after_delete : (find 0 a (run (with_remove earlier 0 a []) begins).cache).answer ≡ Replied (Miss)
not_found_after_delete = refl

found_at_last : (find 0 a (run deeds begins).cache).answer ≡ Replied (Hit new)
found_at_last = refl

-- what the laws ask
key_sized : IsSized a [] 0
key_sized = record { some_key = omega arith; short_key = omega arith; short_value = omega arith; second = omega arith }

item_sized : (first : ℕ) → IsSized a (first ∷ []) 0
item_sized first = record { some_key = omega arith; short_key = omega arith; short_value = omega arith; second = omega arith }

first_may : MayStore version (run (Does Lend ∷ Does (Ask a 0) ∷ Does (Calls (Allocates 0 a old 0)) ∷ []) begins).world a old
unfolding initial write folded_multiply read_short
first_may = inl (record { load = record { key = a; ticket = 0; least = 0 }; asked = inl refl; own = refl; fresh = refl; least = omega arith })

last_may : MayStore version (run (with_remove earlier 0 a (Does Lend ∷ Does (Ask a 3) ∷ Does (Calls (Allocates 0 a new 0)) ∷ [])) begins).world a new
unfolding initial write folded_multiply read_short
last_may = inl (record { load = record { key = a; ticket = 3; least = 1 }; asked = inl refl; own = refl; fresh = refl; least = omega arith })

serves : Serves version config deeds begins
serves = record {
  right = refl;
  sized = (key_sized, (item_sized 0, (tt, (key_sized, (item_sized 1, tt)))));
  honest = silent_honest [] (acts (calls_of deeds) (new_cache config)).log refl;
  slots = omega arith;
  may = (tt, (inl refl, (tt, (first_may, (tt, (inl refl, (tt, (omega arith, (tt, (tt, (inl refl, (tt, (last_may, tt)))))))))))));
}

-- two runs, of which the second begins with what the first left: the first stores the row, and the second removes it
abbrev first : Run
first = record { begins = new_cache config; calls = Allocates 0 a old 0 ∷ Inserts 0 (item 1 old) ∷ [] }

abbrev second : Run
second = record { begins = (acts first.calls first.begins).cache; calls = Removes 0 a ∷ [] }

goes_on : GoOn (new_cache config) (first ∷ second ∷ [])
goes_on = (refl, (refl, tt))

one_log : told (first ∷ second ∷ []) ≡ (acts (Allocates 0 a old 0 ∷ Inserts 0 (item 1 old) ∷ Removes 0 a ∷ []) (new_cache config)).log
one_log = refl
