-- What is found at a key after each change of a list.
use Rattle.std.proofs.Common.{◌≡◌, ℕ, Bool, true, false, not, ◌||◌, List, [], ◌∷◌, ◌++◌, Option, Some, None, refl, arith, ap, sym, ◌∙◌, subst}
use Rattle.std.specs.Prelude.{if◌then◌else◌}
use Rattle.std.specs.List.{list_any}
use Rattle.std.specs.Str.{bytes_eq}
use Rattle.hc_types.specs.FlashEntry.{FlashEntry}
use Rattle.hc_memory.specs.Item.{Item}
use Rattle.hc_memory.specs.Pool.{Pool, is_at, item_at, unmarked_where}
use Rattle.hc_memory.specs.Memory.{linked_at, unlinked}
use Rattle.hc_memory.proofs.Keyed.{same_bytes}
use Rattle.hc_machine.specs.items.Items.{items_of}
use Rattle.hc_machine.proofs.items.Items.{bytes_eq-sym, item_at-other}
use Rattle.hc_machine.proofs.items.Flat.{linked-flat, unlinked-flat}
use Rattle.hc_machine.specs.Nvm.{put_at, without_put, Tombstone, is_stone_of}
use Rattle.hc_invariant.specs.Standing.{first_of}

-- ---- keys

-- two tests of one key agree
pub key-other : (a key k : List ℕ) → bytes_eq a key ≡ true → bytes_eq k key ≡ false → bytes_eq a k ≡ false
key-other a key k e o = let same = same_bytes a key e in subst (λ (c : List ℕ). bytes_eq c k ≡ false) (sym same) (bytes_eq-sym key k ∙ o)

-- at the key, and at each other one
pub at_key : (P : List ℕ → Type 0) (key : List ℕ) → P key → ((k : List ℕ) → bytes_eq k key ≡ false → P k) → (k : List ℕ) → P k
at_key P key here there k = go (bytes_eq k key) refl
  where
    go : (t : Bool) → bytes_eq k key ≡ t → P k
    go true t = subst P (sym (same_bytes k key t)) here
    go false t = there k t

-- ---- puts that wait

put_step : (e : FlashEntry) (key k : List ℕ) (rest : List FlashEntry) (b : Bool) → bytes_eq e.key key ≡ b → bytes_eq k key ≡ false → put_at k (without_put key rest) ≡ put_at k rest
    → put_at k (if not b then e ∷ without_put key rest else without_put key rest) ≡ put_at k (e ∷ rest)
put_step e key k rest true t o h = rw (key-other e.key key k t o) h
put_step e key k rest false t o h = ap (λ (r : Option FlashEntry). if bytes_eq e.key k then Some e else r) h

pub put-other : (key k : List ℕ) (queue : List FlashEntry) → bytes_eq k key ≡ false → put_at k (without_put key queue) ≡ put_at k queue
put-other key k [] o = refl
put-other key k (e ∷ queue) o = put_step e key k queue (bytes_eq e.key key) refl o (put-other key k queue o)

put_own_step : (e : FlashEntry) (key : List ℕ) (rest : List FlashEntry) (b : Bool) → bytes_eq e.key key ≡ b → put_at key (without_put key rest) ≡ None → put_at key (if not b then e ∷ without_put key rest else without_put key rest) ≡ None
put_own_step e key rest true t h = h
put_own_step e key rest false t h = rw t h

pub put-gone : (key : List ℕ) (queue : List FlashEntry) → put_at key (without_put key queue) ≡ None
put-gone key [] = refl
put-gone key (e ∷ queue) = put_own_step e key queue (bytes_eq e.key key) refl (put-gone key queue)

pub put-push : (e : FlashEntry) (k : List ℕ) (queue : List FlashEntry) → put_at k (queue ++ e ∷ []) ≡ first_of (put_at k queue) (if bytes_eq e.key k then Some e else None)
put-push e k [] = refl
put-push e k (x ∷ queue) = push_step (bytes_eq x.key k) (put-push e k queue)
  where
    push_step : (b : Bool) → put_at k (queue ++ e ∷ []) ≡ first_of (put_at k queue) (if bytes_eq e.key k then Some e else None)
        → (if b then Some x else put_at k (queue ++ e ∷ [])) ≡ first_of (if b then Some x else put_at k queue) (if bytes_eq e.key k then Some e else None)
    push_step true h = refl
    push_step false h = h

-- ---- tombstones

abbrev pub stands_in : List ℕ → List Tombstone → Bool
stands_in key stones = list_any (is_stone_of key) stones

pub stone-push : (key k : List ℕ) (stones : List Tombstone) → stands_in k (stones ++ record { key = key; taken = false } ∷ []) ≡ (stands_in k stones || bytes_eq key k)
stone-push key k [] = grind arith
stone-push key k (stone ∷ stones) = grind (arith, stone-push key k stones)

-- ---- items

-- the item of another key stays where a key is unlinked
pub linked-other : (key k : List ℕ) (pools : List Pool) → bytes_eq key k ≡ false → linked_at k (unlinked key pools) ≡ linked_at k pools
linked-other key k pools o =
    linked-flat k (unlinked key pools) ∙ ap (item_at k) (unlinked-flat key pools) ∙ item_at-other key k (items_of pools) o ∙ sym (linked-flat k pools)

-- an item after a loss
abbrev pub unmarked_if : (Item → Bool) → Option Item → Option Item
unmarked_if test None = None
unmarked_if test (Some i) = Some (if test i then record i { clean = false } else i)

pub item-unmarked : (test : Item → Bool) (key : List ℕ) (items : List Item) → item_at key (unmarked_where test items) ≡ unmarked_if test (item_at key items)
item-unmarked test key [] = refl
item-unmarked test key (x ∷ items) = step (test x) refl (is_at key x) refl (item-unmarked test key items)
  where
    step : (b : Bool) → test x ≡ b → (c : Bool) → is_at key x ≡ c → item_at key (unmarked_where test items) ≡ unmarked_if test (item_at key items) → item_at key (unmarked_where test (x ∷ items)) ≡ unmarked_if test (item_at key (x ∷ items))
    step true e true f h = rw (e, f) (rw e refl)
    step false e true f h = rw (e, f) (rw e refl)
    step true e false f h = rw (e, f) h
    step false e false f h = rw (e, f) h
