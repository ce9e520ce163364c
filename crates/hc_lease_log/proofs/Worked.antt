-- A worked run of a service, by computing: what is loaded before a change is stored before its delete, and not after it.
use Rattle.std.proofs.Common.{◌≡◌, inl, ℕ, true, false, List, [], ◌∷◌, ◌++◌, Option, Some, None, refl, arith, slice_index, replicate}
use Rattle.std.specs.Hash.FoldHasher.{initial, write, folded_multiply, read_short}
use Rattle.hc_history.specs.Note.{Insert, Add, Remove, Stored, FoundInMemory, NotInMemory, Begin, Did, End, Charged, Linked, Freed}
use Rattle.hc_history.specs.Books.{value_at}
use Rattle.hc_lease.specs.Stamps.{is_fresh}
use Rattle.hc_lease_log.specs.Log.{Changing, Waiting, Replying, Step, stamps_after, log_after, AllTell}
use Rattle.hc_lease_log.specs.Rows.{World, Event, Commit, Steps, Lend, Ask, run, MayStore, AllMay, Begins, IsDelete}

abbrev a : List ℕ
a = 97 ∷ []

-- the version of a row stands in its first byte
abbrev version : List ℕ → ℕ
version value = slice_index value 0

abbrev old : List ℕ
old = 0 ∷ []

abbrev new : List ℕ
new = 1 ∷ []

abbrev store : ℕ → List ℕ → Step
store call value = record { kind = Changing a; part = Charged call a 0 34 ∷ Begin call 0 (Insert a value 0) ∷ Linked call ∷ Did call Stored ∷ End call ∷ [] }

abbrev delete : ℕ → Step
delete call = record { kind = Changing a; part = Begin call 0 (Remove a) ∷ Freed 1 ∷ Did call FoundInMemory ∷ End call ∷ [] }

-- a table of four slots
abbrev world : World
world = record { rows = λ key. 0; log = []; stamps = record { count = 0; slots = replicate 4 0; adds = []; room = 0 }; lent = []; loads = [] }

-- the row is loaded and stored, and another loads it too; it is changed, and the key is deleted
abbrev earlier : List Event
earlier = Lend ∷ Ask a 0 ∷ Steps (store 1 old) ∷ Lend ∷ Ask a 1 ∷ Commit a ∷ []

-- who loads it now has the new row
abbrev later : List Event
later = Lend ∷ Ask a 2 ∷ Steps (store 3 new) ∷ []

abbrev events : List Event
events = earlier ++ Steps (delete 2) ∷ later

-- the other's ticket is good until the delete, and no longer
good_before : is_fresh a 1 (run earlier world).stamps ≡ true
unfolding initial write folded_multiply read_short
good_before = refl

stale_after : is_fresh a 1 (run (earlier ++ Steps (delete 2) ∷ []) world).stamps ≡ false
unfolding initial write folded_multiply read_short
stale_after = refl

found_at_last : value_at None (run events world).log a ≡ Some new
found_at_last = refl

-- all that is asked of a service is met
own : (key : List ℕ) → ◌≡◌ {A = Option (List ℕ)} (Some a) (Some key) → key ≡ a
own key e = cc

begins : Begins world
begins = record { slots = omega arith; log = refl; lent = refl; loads = refl }

deleted : IsDelete None (run earlier world).log a (delete 2)
deleted = record { kind = refl; gone = refl }

all_may : AllMay version events world
unfolding initial write folded_multiply read_short
all_may = (tt, (inl refl, ((((own, tt), λ call among. among), tt, (first, tt)), (tt, (inl refl, (tt, ((((own, tt), λ call among. among), tt, tt), (tt, (inl refl, ((((own, tt), λ call among. among), tt, (third, tt)), tt))))))))))
  where
    first : MayStore version (run (Lend ∷ Ask a 0 ∷ []) world) a old
    first = inl (record { load = record { key = a; ticket = 0; least = 0 }; asked = inl refl; own = refl; fresh = refl; least = omega arith })

    third : MayStore version (run (earlier ++ Steps (delete 2) ∷ Lend ∷ Ask a 2 ∷ []) world) a new
    third = inl (record { load = record { key = a; ticket = 2; least = 1 }; asked = inl refl; own = refl; fresh = refl; least = omega arith })

-- an add of the key waits for flash, and stores while a delete of it is answered: no ticket is good until its reply is taken
abbrev waits : Step
waits = record { kind = Waiting 1 a; part = Charged 1 a 0 34 ∷ Begin 1 0 (Add a old 0) ∷ [] }

abbrev stored_behind : Step
stored_behind = record { kind = Changing a; part = Begin 2 0 (Remove a) ∷ Did 2 NotInMemory ∷ End 2 ∷ Linked 1 ∷ Did 1 Stored ∷ [] }

abbrev replies : Step
replies = record { kind = Replying 1; part = End 1 ∷ [] }

stale_while_it_waits : is_fresh a 1 (stamps_after (waits ∷ stored_behind ∷ []) world.stamps) ≡ false
unfolding initial write folded_multiply read_short
stale_while_it_waits = refl

stale_by_its_reply : is_fresh a 1 (stamps_after (waits ∷ stored_behind ∷ replies ∷ []) world.stamps) ≡ false
unfolding initial write folded_multiply read_short
stale_by_its_reply = refl

good_behind_its_reply : is_fresh a 2 (stamps_after (waits ∷ stored_behind ∷ replies ∷ []) world.stamps) ≡ true
unfolding initial write folded_multiply read_short
good_behind_its_reply = refl

found_behind : value_at None (log_after (waits ∷ stored_behind ∷ replies ∷ []) []) a ≡ Some old
found_behind = refl

-- these tell what their kinds say
all_tell : AllTell (waits ∷ stored_behind ∷ replies ∷ []) []
all_tell = (((λ key e. (refl, own key e)), tt), (((own, tt), λ call among. absurd among), ((tt, refl), tt)))
