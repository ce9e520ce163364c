-- An item is taken in, or it is not: what was taken in so far is a cache, and its numbers are kept.
use Rattle.std.proofs.Common.{◌≡◌, ℕ, Bool, true, false, Option, Some, None, Result, Ok, Err, OnOk, OnErr, refl, sym, ap, ◌∙◌, subst}
use Rattle.std.specs.Prelude.{◌==◌, ◌||◌, is_some, option_map, if◌then◌else◌}
use Rattle.std.specs.List.{list_any}
use Rattle.std.specs.Ordering.{nat_cmp}
use Rattle.std.specs.Option.{option_or}
use Rattle.std.specs.BTreeSet.{BTreeSet, contains}
use Rattle.hc_memory.specs.Item.{Item}
use Rattle.hc_memory.specs.Memory.{Memory}
use Rattle.hc_memory.specs.Resting.{misfit_of, after_restore}
use Rattle.hc_machine.specs.items.Items.{items_of, item_has}
use Rattle.hc_machine.specs.Cache.{Cache}
use Rattle.hc_machine.specs.Calls.{waiting_at}
use Rattle.hc_state.specs.declared.builder.Unfit.{Unfit}
use Rattle.hc_state.specs.declared.builder.Unfit.TheVariants.{NumberTwice, KeyTwice}
use Rattle.hc_state.specs.Numbers.{AreNumbers}
use Rattle.hc_state.specs.Resting.{unfit_by, clash_of, item_misfit, IsCache}
use Rattle.hc_state.proofs.Rested.{item-comes}
use Rattle.hc_state.proofs.Numbered.{numbers-with}

-- ---- why it isn't taken in

abbrev clash_by : Bool → Bool → Option Unfit
clash_by number key = if number then Some NumberTwice else (if key then Some KeyTwice else None)

-- in the order of the tests
pub clash-is : (cache : Cache) (item : Item) (number key : Bool) → number ≡ list_any (item_has item.number) (items_of cache.memory.pools) → key ≡ is_some (waiting_at cache.nvm item.key) → clash_by number key ≡ clash_of cache item
clash-is cache item number key n k = λ i. clash_by (n i) (k i)

absent : {X : Type 0} (o : Option X) → is_some o ≡ false → o ≡ None
absent None e = refl
absent (Some x) e = absurd cc

clash_step : (number key : Bool) → clash_by number key ≡ None → (number ≡ false) × (key ≡ false)
clash_step true key e = absurd cc
clash_step false true e = absurd cc
clash_step false false e = (refl, refl)

-- nothing of it is there
pub new-number : (cache : Cache) (item : Item) → clash_of cache item ≡ None → list_any (item_has item.number) (items_of cache.memory.pools) ≡ false
new-number cache item none = (clash_step (list_any (item_has item.number) (items_of cache.memory.pools)) (is_some (waiting_at cache.nvm item.key)) none).0

pub new-key : (cache : Cache) (item : Item) → clash_of cache item ≡ None → waiting_at cache.nvm item.key ≡ None
new-key cache item none = absent (waiting_at cache.nvm item.key) (clash_step (list_any (item_has item.number) (items_of cache.memory.pools)) (is_some (waiting_at cache.nvm item.key)) none).1

pub misfit-none : (cache : Cache) (item : Item) → clash_of cache item ≡ None → misfit_of cache.memory item ≡ None → item_misfit cache item ≡ None
misfit-none cache item clash misfit = λ i. option_or (clash i) (option_map unfit_by (misfit i))

pub misfit-clash : (cache : Cache) (item : Item) (why : Unfit) → clash_of cache item ≡ Some why → item_misfit cache item ≡ Some why
misfit-clash cache item why clash = ap (λ o. option_or o (option_map unfit_by (misfit_of cache.memory item))) clash

pub misfit-pools : (cache : Cache) (item : Item) (why : Unfit) → clash_of cache item ≡ None → option_map unfit_by (misfit_of cache.memory item) ≡ Some why → item_misfit cache item ≡ Some why
misfit-pools cache item why clash misfit = ap (λ o. option_or o (option_map unfit_by (misfit_of cache.memory item))) clash ∙ misfit

-- ---- what holds behind it

pub record TakenIn (cache : Cache) (memory : Memory) (numbers : BTreeSet ℕ) : Type 0 where
  pub cache_is : IsCache (record cache { memory = memory })
  pub numbers_are : AreNumbers numbers memory.pools

pub taken-in : {T E : Type 0} (r : Result T E) (cache : Cache) (item : Item) (memory : Memory) (old new : BTreeSet ℕ) → IsCache cache → AreNumbers old cache.memory.pools → clash_of cache item ≡ None → OnOk r (misfit_of cache.memory item ≡ None)
    → OnOk r (memory ≡ after_restore cache.memory item) → OnOk r ((n : ℕ) → contains nat_cmp new n ≡ ((item.number == n) || contains nat_cmp old n)) → OnErr r (memory ≡ cache.memory) → OnErr r ((n : ℕ) → contains nat_cmp new n ≡ contains nat_cmp old n)
    → TakenIn cache memory new
taken-in (Ok v) cache item memory old new h are none fits is came same_memory same_numbers =
    subst (λ (m : Memory). TakenIn cache m new) (sym is)
    (record {
      cache_is = item-comes cache item h (new-number cache item none) (new-key cache item none) fits;
      numbers_are = numbers-with cache.memory item old new fits are came;
    })
taken-in (Err e) cache item memory old new h are none fits is came same_memory same_numbers =
    subst (λ (m : Memory). TakenIn cache m new) (sym same_memory) (record { cache_is = h; numbers_are = λ n. same_numbers n ∙ are n })
