-- Caches at rest: what is handed out, and an item that comes back.
use Rattle.std.proofs.Common.{◌≡◌, ℕ, ◌+◌, ◌<◌, ◌≤◌, nat_lt, nat_le, Bool, true, false, cond, not, ◌&&◌, List, [], ◌∷◌, length, Option, Some, None, refl, sym, ap, ◌∙◌, subst, arith}
use Rattle.std.specs.Prelude.{◌==◌, is_some, if◌then◌else◌}
use Rattle.std.specs.List.{list_any}
use Rattle.std.proofs.lemmas.Bool.{eqb-true, ltb-true}
use Rattle.hc_types.specs.Tally.{tally, count}
use Rattle.hc_types.proofs.Tallies.{tally-push}
use Rattle.hc_memory.specs.Item.{Item, cost}
use Rattle.hc_memory.specs.Pool.{is_at}
use Rattle.hc_memory.specs.Memory.{Memory, linked_at}
use Rattle.hc_memory.specs.declared.builder.Misfit.{Misfit}
use Rattle.hc_memory.specs.declared.builder.Misfit.TheVariants.{NoPool, NoNumber, KeyTwice, NoRoom}
use Rattle.hc_memory.specs.Resting.{misfit_of, is_numbered, is_full_at}
use Rattle.hc_memory.proofs.Keyed.{same_bytes}
use Rattle.hc_memory.proofs.Keys as keys
use Rattle.hc_memory.proofs.Making.{there-of}
use Rattle.hc_machine.specs.items.Items.{items_of, item_has, open_has}
use Rattle.hc_machine.proofs.items.Flat.{linked-flat, pushed-flat}
use Rattle.hc_machine.specs.Nvm.{Nvm, Fill, is_put_of, is_fill_of}
use Rattle.hc_machine.specs.Cache.{Cache}
use Rattle.hc_machine.specs.Calls.{waiting_at, queue_of}
use Rattle.hc_invariant.specs.Good.{fills_of}
use Rattle.hc_invariant.specs.Jobs.{AllWishes}
use Rattle.hc_proof.proofs.frames.ByNumber.{none-counted}
use Rattle.hc_proof.proofs.frames.Lists.{any-counts}
use Rattle.hc_state.specs.Resting.{flash_rests, is_at_rest, IsCache, with_item}

-- ---- what a cache at rest has none of

pub both_hold : (a b : Bool) → (a && b) ≡ true → (a ≡ true) × (b ≡ true)
both_hold true b e = (refl, e)
both_hold false b e = absurd cc

pub nothing_in : {X : Type 0} (xs : List X) → (length xs == 0) ≡ true → xs ≡ []
nothing_in [] e = refl
nothing_in (x ∷ xs) e = let same = eqb-true (length (x ∷ xs)) 0 e in absurd (omega (arith, same))

pub no-replies : (cache : Cache) → is_at_rest cache ≡ true → cache.owed ≡ []
no-replies cache h =
    let lists = both_hold (flash_rests cache.nvm) ((length cache.memory.charges == 0) && (length cache.owed == 0)) h in
    nothing_in cache.owed (both_hold (length cache.memory.charges == 0) (length cache.owed == 0) lists.1).1

pub no-charges : (cache : Cache) → is_at_rest cache ≡ true → cache.memory.charges ≡ []
no-charges cache h =
    let lists = both_hold (flash_rests cache.nvm) ((length cache.memory.charges == 0) && (length cache.owed == 0)) h in
    nothing_in cache.memory.charges (both_hold (length cache.memory.charges == 0) (length cache.owed == 0) lists.1).0

no_fills : (nvm : Option Nvm) → flash_rests nvm ≡ true → fills_of nvm ≡ []
no_fills None h = refl
no_fills (Some nvm) h = nothing_in nvm.fills (both_hold _ (length nvm.fills == 0) (both_hold _ _ h).0).1

-- ---- an item comes back

chained : (a b c d : Bool) → ◌≡◌ {A = Option Misfit} (if a then Some NoPool else (if b then Some NoNumber else (if c then Some KeyTwice else (if d then Some NoRoom else None)))) None → (a ≡ false) × (b ≡ false) × (c ≡ false)
chained true b c d e = absurd cc
chained false true c d e = absurd cc
chained false false true d e = absurd cc
chained false false false d e = (refl, refl, refl)

not_not : (b : Bool) → not b ≡ false → b ≡ true
not_not true e = refl
not_not false e = absurd cc

none_of : {X : Type 0} (o : Option X) → is_some o ≡ false → o ≡ None
none_of None e = refl
none_of (Some x) e = absurd cc

-- it counts nothing, or is the only one
once_more : (b : Bool) (old others : ℕ) → (b ≡ true → old + others ≡ 0) → old + others ≤ 1 → (old + cond b 1 0) + others ≤ 1
once_more true old others none one = omega (arith, none refl)
once_more false old others none one = omega (arith, one)

module _ (cache : Cache) (item : Item) (h : IsCache cache) (alone : list_any (item_has item.number) (items_of cache.memory.pools) ≡ false) (apart : waiting_at cache.nvm item.key ≡ None) (fits : misfit_of cache.memory item ≡ None) where
  abbrev memory : Memory
  memory = cache.memory

  is_fitting : (not (nat_lt item.pool (length memory.pools)) ≡ false) × (not (is_numbered memory.flash memory.made item) ≡ false) × (is_some (linked_at item.key memory.pools) ≡ false)
  is_fitting = chained (not (nat_lt item.pool (length memory.pools))) (not (is_numbered memory.flash memory.made item)) (is_some (linked_at item.key memory.pools)) (is_full_at memory item.pool (cost item)) fits

  new_sum : (f : Item → ℕ) → tally f (items_of (with_item item cache).memory.pools) ≡ tally f (items_of memory.pools) + f item
  new_sum f =
      let found = there-of memory.pools item.pool (ltb-true item.pool (length memory.pools) (not_not (nat_lt item.pool (length memory.pools)) is_fitting.0)) in
      pushed-flat f item.pool item found.0 memory.pools found.1 ∙ tally-push f (items_of memory.pools) item

  no_items : count (is_at item.key) (items_of memory.pools) ≡ 0
  no_items = keys.none-counted item.key (items_of memory.pools) (sym (linked-flat item.key memory.pools) ∙ none_of _ is_fitting.2)

  no_puts : (nvm : Option Nvm) → waiting_at nvm item.key ≡ None → count (is_put_of item.key) (queue_of nvm) ≡ 0
  no_puts None e = refl
  no_puts (Some nvm) e = none-counted (is_put_of item.key) nvm.queue e

  fills_none : fills_of cache.nvm ≡ []
  fills_none = no_fills cache.nvm (both_hold _ _ h.rests).0

  one_place : (key : List ℕ) → count (is_at key) (items_of (with_item item cache).memory.pools) + (count (is_put_of key) (queue_of cache.nvm) + count (is_fill_of key) (fills_of cache.nvm)) ≤ 1
  one_place key =
      let others = count (is_put_of key) (queue_of cache.nvm) + count (is_fill_of key) (fills_of cache.nvm) in
      let old = count (is_at key) (items_of memory.pools) in
      omega (arith, new_sum (λ i. cond (is_at key i) 1 0), once_more (is_at key item) old others none (h.structured.one_place key))
    where
      none : is_at key item ≡ true → count (is_at key) (items_of memory.pools) + (count (is_put_of key) (queue_of cache.nvm) + count (is_fill_of key) (fills_of cache.nvm)) ≡ 0
      none e =
          let same : key ≡ item.key = same_bytes key item.key e in
          let no_fill : count (is_fill_of item.key) (fills_of cache.nvm) ≡ 0 = ap (count (is_fill_of item.key)) fills_none in
          subst (λ (k : List ℕ). count (is_at k) (items_of memory.pools) + (count (is_put_of k) (queue_of cache.nvm) + count (is_fill_of k) (fills_of cache.nvm)) ≡ 0) (sym same) (omega (arith, no_items, no_puts cache.nvm apart, no_fill))

  none_open : (n : ℕ) → count (open_has n) memory.charges ≡ 0
  none_open n = ap (count (open_has n)) (no-charges cache h.rests)

  one_number : (n : ℕ) → count (item_has n) (items_of (with_item item cache).memory.pools) + count (open_has n) memory.charges ≤ 1
  one_number n = omega (arith, new_sum (λ i. cond (item_has n i) 1 0), once_more (item_has n item) (count (item_has n) (items_of memory.pools)) (count (open_has n) memory.charges) none (h.structured.one_number n))
    where
      none : item_has n item ≡ true → count (item_has n) (items_of memory.pools) + count (open_has n) memory.charges ≡ 0
      none e =
          let same : item.number ≡ n = eqb-true item.number n e in
          let gone : count (item_has n) (items_of memory.pools) ≡ 0 = subst (λ (k : ℕ). count (item_has k) (items_of memory.pools) ≡ 0) same (any-counts (item_has item.number) (items_of memory.pools) alone) in
          omega (arith, gone, none_open n)

  given_out : item.number ≤ memory.made
  given_out = le_of (item.number) memory.made (both_hold (nat_le item.number memory.made) _ (not_not _ is_fitting.1)).0
    where
      le_of : (a b : ℕ) → nat_le a b ≡ true → a ≤ b
      le_of a b e = grind (arith, e)

  fresh : (n : ℕ) → memory.made < n → count (item_has n) (items_of (with_item item cache).memory.pools) + count (open_has n) memory.charges ≡ 0
  fresh n lt = omega (arith, new_sum (λ i. cond (item_has n i) 1 0), h.structured.fresh n lt, other (item_has n item) refl)
    where
      other : (b : Bool) → item_has n item ≡ b → ◌≡◌ {A = ℕ} (cond (item_has n item) 1 0) 0
      other false e = ap {B = ℕ} (λ b. cond b 1 0) e
      other true e = absurd (omega (arith, given_out, lt, eqb-true item.number n e))

  pub item-comes : IsCache (with_item item cache)
  item-comes = record {
    structured = record {
      one_place = one_place;
      one_number = one_number;
      fresh = fresh;
      wishes = subst (λ (fills : List Fill). AllWishes (with_item item cache).memory fills) (sym fills_none) tt;
      one_add = h.structured.one_add;
      one_stone = h.structured.one_stone;
      jobs = h.structured.jobs;
      flash = h.structured.flash;
    };
    rests = h.rests;
  }
