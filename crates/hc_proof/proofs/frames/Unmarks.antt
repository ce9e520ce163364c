-- What is told of a part of a step takes clean marks from items, and leaves all else in memory as it was.
use Rattle.std.proofs.Common.{◌≡◌, ℕ, false, List, [], ◌∷◌, length, map, Option, refl, ap, arith, ◌∙◌}
use Rattle.std.specs.Prelude.{if◌then◌else◌}
use Rattle.std.proofs.lemmas.List.{length-map}
use Rattle.hc_types.specs.Loss.{Scope}
use Rattle.hc_types.specs.Tally.{tally}
use Rattle.hc_types.specs.declared.config.FlashConfig.{FlashConfig}
use Rattle.hc_types.proofs.Tallies.{tally-append}
use Rattle.hc_memory.specs.Item.{Item, Open}
use Rattle.hc_memory.specs.Pool.{Pool, is_at, unmarked_where}
use Rattle.hc_memory.specs.Memory.{all_unmarked, Memory}
use Rattle.hc_memory.proofs.Keyed.{tally-unmarked}
use Rattle.hc_machine.specs.items.Items.{items_of}
use Rattle.hc_history.specs.Note.{Note}
use Rattle.hc_invariant.specs.Tells.{ChargesTell}
use Rattle.hc_machine.specs.items.Items.{charge_at, item_has}
use Rattle.hc_invariant.proofs.Losses.{covers_item}
use Rattle.hc_machine.specs.Nvm.{Wish, ToFind, ToAdd, Waiter}
use Rattle.hc_invariant.specs.Jobs.{WishHolds, AllWish}

pub sizes_unmarked : (flash : Option FlashConfig) (scope : Scope) (pools : List Pool) → map (λ (pool : Pool). pool.size) (all_unmarked flash scope pools) ≡ map (λ (pool : Pool). pool.size) pools
sizes_unmarked flash scope [] = refl
sizes_unmarked flash scope (p ∷ pools) = ap (λ sizes. p.size ∷ sizes) (sizes_unmarked flash scope pools)

pub length_unmarked : (flash : Option FlashConfig) (scope : Scope) (pools : List Pool) → length (all_unmarked flash scope pools) ≡ length pools
length_unmarked flash scope pools = length-map pools (λ (pool : Pool). record pool { items = unmarked_where (covers_item flash scope) pool.items })

pub tally_unmarked : (f : Item → ℕ) → ((y : Item) → f (record y { clean = false }) ≡ f y) → (flash : Option FlashConfig) (scope : Scope) (pools : List Pool) → tally f (items_of (all_unmarked flash scope pools)) ≡ tally f (items_of pools)
tally_unmarked f same flash scope [] = refl
tally_unmarked f same flash scope (p ∷ pools) =
    let here = tally-unmarked f (covers_item flash scope) same p.items in
    omega (arith, tally-append f (unmarked_where (covers_item flash scope) p.items) (items_of (all_unmarked flash scope pools)), tally-append f p.items (items_of pools), here, tally_unmarked f same flash scope pools)

-- the charges are those of the items as before
pub charges_unmarked : (older : List Note) (flash : Option FlashConfig) (scope : Scope) (pools : List Pool) (opens : List Open) (made : ℕ) → ChargesTell older (items_of pools) opens made → ChargesTell older (items_of (all_unmarked flash scope pools)) opens made
charges_unmarked older flash scope pools opens made c = record {
  one_key = λ key. omega (arith, c.one_key key, tally_unmarked (λ item. if is_at key item then 1 else 0) (λ y. refl) flash scope pools);
  one_number = λ n. omega (arith, c.one_number n, tally_unmarked (λ item. if item_has n item then 1 else 0) (λ y. refl) flash scope pools);
  fresh = λ n l. omega (arith, c.fresh n l, tally_unmarked (λ item. if item_has n item then 1 else 0) (λ y. refl) flash scope pools);
  same = λ f. c.same f ∙ omega (arith, tally_unmarked (λ item. f (charge_at item)) (λ y. refl) flash scope pools);
}

pub wish_stays : (old new : Memory) (key : List ℕ) (wish : Wish) → new.charges ≡ old.charges → WishHolds old key wish → WishHolds new key wish
wish_stays old new key ToFind e h = tt
wish_stays old new key (ToAdd handle) e h = (h.0, rw e h.1)

pub wishes_stay : (old new : Memory) (key : List ℕ) (waiters : List Waiter) → new.charges ≡ old.charges → AllWish old key waiters → AllWish new key waiters
wishes_stay old new key [] e h = tt
wishes_stay old new key (waiter ∷ waiters) e h = (wish_stays old new key waiter.wish e h.0, wishes_stay old new key waiters e h.1)
