-- A worked run of a service over the machine, by computing: what is loaded before a change is stored before its delete,
-- and not after it. All that the laws ask is met.
use Rattle.std.proofs.Common.{◌≡◌, inl, ℕ, true, false, List, [], ◌∷◌, ◌++◌, refl, arith, slice_index, replicate}
use Rattle.std.specs.Hash.FoldHasher.{initial, write, folded_multiply, read_short}
use Rattle.hc_types.specs.Config.{Config}
use Rattle.hc_memory.specs.Item.{Handle}
use Rattle.hc_history.specs.Note.{Hit}
use Rattle.hc_invariant.specs.Good.{IsSized}
use Rattle.hc_machine.specs.Cache.{Replied, new_cache}
use Rattle.hc_machine.specs.Calls.{find}
use Rattle.hc_machine.proofs.Tables.{no_flash}
use Rattle.hc_machine.specs.Call.{Allocates, Inserts, Removes, acts}
use Rattle.hc_theorem.proofs.runs.Running.{silent_honest}
use Rattle.hc_lease.specs.Stamps.{is_fresh}
use Rattle.hc_lease_log.specs.Rows.{MayStore}
use Rattle.hc_lease_steps.specs.Serving.{Deed, Commit, Calls, Lend, Ask, Service, run, calls_of, new_service, Serves}

abbrev a : List ℕ
a = 97 ∷ []

-- the version of a row stands in its first byte
abbrev version : List ℕ → ℕ
version value = slice_index value 0

abbrev old : List ℕ
old = 0 ∷ []

abbrev new : List ℕ
new = 1 ∷ []

abbrev item : ℕ → List ℕ → Handle
item number value = record { number = number; pool = 0; key = a; expiry = 0; value = value }

-- one pool, and a table of four slots
abbrev config : Config
config = no_flash 1000 10

abbrev begins : Service
begins = new_service config (record { count = 0; slots = replicate 4 0; adds = []; room = 0 }) (λ key. 0)

-- the row is loaded and stored, and another loads it too; it is changed, and the key is deleted
abbrev earlier : List Deed
earlier = Lend ∷ Ask a 0 ∷ Calls (Allocates 0 a old 0) ∷ Calls (Inserts 0 (item 1 old)) ∷ Lend ∷ Ask a 1 ∷ Commit a ∷ []

-- who loads it now has the new row
abbrev later : List Deed
later = Lend ∷ Ask a 2 ∷ Calls (Allocates 0 a new 0) ∷ Calls (Inserts 1 (item 2 new)) ∷ []

abbrev deeds : List Deed
deeds = earlier ++ Calls (Removes 0 a) ∷ later

-- the other's ticket is good until the delete, and no longer
good_before : is_fresh a 1 (run earlier begins).world.stamps ≡ true
unfolding initial write folded_multiply read_short
good_before = refl

stale_after : is_fresh a 1 (run (earlier ++ Calls (Removes 0 a) ∷ []) begins).world.stamps ≡ false
unfolding initial write folded_multiply read_short
stale_after = refl

found_before : (find 0 a (run earlier begins).cache).answer ≡ Replied (Hit old)
found_before = refl

found_at_last : (find 0 a (run deeds begins).cache).answer ≡ Replied (Hit new)
found_at_last = refl

-- what the laws ask
key_sized : IsSized a [] 0
key_sized = record { some_key = omega arith; short_key = omega arith; short_value = omega arith; second = omega arith }

item_sized : (first : ℕ) → IsSized a (first ∷ []) 0
item_sized first = record { some_key = omega arith; short_key = omega arith; short_value = omega arith; second = omega arith }

first_may : MayStore version (run (Lend ∷ Ask a 0 ∷ Calls (Allocates 0 a old 0) ∷ []) begins).world a old
unfolding initial write folded_multiply read_short
first_may = inl (record { load = record { key = a; ticket = 0; least = 0 }; asked = inl refl; own = refl; fresh = refl; least = omega arith })

last_may : MayStore version (run (earlier ++ Calls (Removes 0 a) ∷ Lend ∷ Ask a 2 ∷ Calls (Allocates 0 a new 0) ∷ []) begins).world a new
unfolding initial write folded_multiply read_short
last_may = inl (record { load = record { key = a; ticket = 2; least = 1 }; asked = inl refl; own = refl; fresh = refl; least = omega arith })

serves : Serves version config deeds begins
serves = record {
  right = refl;
  sized = (key_sized, (item_sized 0, (tt, (key_sized, (item_sized 1, tt)))));
  honest = silent_honest [] (acts (calls_of deeds) (new_cache config)).log refl;
  slots = omega arith;
  may = (tt, (inl refl, (tt, (first_may, (tt, (inl refl, (tt, (tt, (tt, (inl refl, (tt, (last_may, tt))))))))))));
}
