-- What a loss leaves of an item, and of the map, at each key.
use Rattle.std.proofs.Common.{◌≡◌, ℕ, ◌==◌, Bool, false, ◌||◌, List, [], ◌∷◌, length, Option, Some, None, refl, arith}
use Rattle.std.specs.Prelude.{if◌then◌else◌, is_some}
use Rattle.hc_types.specs.Loss as loss
use Rattle.hc_types.specs.Loss.{Scope}
use Rattle.hc_types.specs.Places.{kept_of}
use Rattle.hc_types.specs.declared.config.FlashConfig.{FlashConfig}
use Rattle.hc_types.specs.FlashEntry.{FlashEntry}
use Rattle.hc_memory.specs.Item.{Item}
use Rattle.hc_memory.specs.Pool.{Pool, item_at, unmarked_where}
use Rattle.hc_memory.specs.Memory.{linked_at, all_unmarked}
use Rattle.hc_history.specs.Books.{Entry, covers, entry_left}
use Rattle.hc_invariant.proofs.Placing.{map_lost}
use Rattle.hc_invariant.proofs.Frames.{left-is}
use Rattle.hc_invariant.proofs.Lookups.{unmarked_if, item-unmarked}

abbrev pub covers_item : Option FlashConfig → Scope → Item → Bool
covers_item flash scope item = loss.covers flash scope item.key (length item.value)

linked_step : (test : Item → Bool) (key : List ℕ) (here new there left : Option Item) → new ≡ unmarked_if test here → left ≡ unmarked_if test there → (if is_some new then new else left) ≡ unmarked_if test (if is_some here then here else there)
linked_step test key None new there left e f = rw e f
linked_step test key (Some i) new there left e f = rw e refl

-- the item of a key, after a loss
pub linked-unmarked : (flash : Option FlashConfig) (scope : Scope) (key : List ℕ) (pools : List Pool) → linked_at key (all_unmarked flash scope pools) ≡ unmarked_if (covers_item flash scope) (linked_at key pools)
linked-unmarked flash scope key [] = refl
linked-unmarked flash scope key (pool ∷ pools) =
    linked_step (covers_item flash scope) key (item_at key pool.items) (item_at key (unmarked_where (covers_item flash scope) pool.items)) (linked_at key pools) (linked_at key (all_unmarked flash scope pools))
    (item-unmarked (covers_item flash scope) key pool.items) (linked-unmarked flash scope key pools)

-- what the map has of a key after a loss that covers it or not
pub left-by : (flash : Option FlashConfig) (scope : Scope) (key : List ℕ) (i : Option Item) (q : Option FlashEntry) (m : Option Entry) (held : Bool) → held ≡ (is_some i || is_some q)
    → entry_left flash scope held key m ≡ (if covers flash scope key m then map_lost i q m else m)
left-by flash scope key i q m held h = left-is i q m (covers flash scope key m) held h

-- a hash's loss doesn't cover a key of another hash
pub other-hash : (flash : FlashConfig) (hash : ℕ) (but : Option (List ℕ)) (key : List ℕ) (m : Option Entry) → (kept_of flash.bits key == hash) ≡ false → covers (Some flash) (loss.Hash hash but) key m ≡ false
other-hash flash hash but key None o = refl
other-hash flash hash but key (Some entry) o = grind (arith, o)
