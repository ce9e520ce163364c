-- No call that waits keeps the charge that was opened last.
use Rattle.std.proofs.Common.{◌≡◌, ℕ, ◌+◌, false, List, [], ◌∷◌, Option, Some, None, refl, ap, ◌∙◌, subst}
use Rattle.std.specs.List.{list_any}
use Rattle.hc_types.specs.Tally.{count}
use Rattle.hc_memory.specs.Item.{charge_by}
use Rattle.hc_memory.specs.Charges.{has_number}
use Rattle.hc_memory.specs.Memory.{Memory}
use Rattle.hc_machine.specs.items.Items.{items_of}
use Rattle.hc_machine.specs.Nvm.{Nvm, Wish, ToFind, ToAdd, Waiter, Fill, adds}
use Rattle.hc_machine.specs.Cache.{Cache}
use Rattle.hc_machine.specs.Evicting.{make_charge}
use Rattle.hc_machine.specs.Calls.{is_kept_in, queue_of}
use Rattle.hc_invariant.specs.Jobs.{WishHolds, AllWish, AllWishes}
use Rattle.hc_invariant.specs.Good.{fills_of}
use Rattle.hc_invariant.specs.Structure.{Structured}
use Rattle.hc_proof.proofs.evicting.LinkedClean.{not_it}
use Rattle.hc_proof.specs.structure.Parts.{all_of}
use Rattle.hc_proof.proofs.structure.Parts.{parts_of, next_open}
use Rattle.hc_proof.proofs.structure.Rooms.{charge_stands}

-- ---- no add that waits keeps a charge that isn't open

module _ (memory : Memory) (n : ℕ) (none : count (has_number n) memory.charges ≡ 0) where
  no_call : (key : List ℕ) (waiters : List Waiter) → AllWish memory key waiters → list_any (adds n) waiters ≡ false
  no_call key [] wish = refl
  no_call key (waiter ∷ waiters) wish = go waiter.wish refl wish.0 (no_call key waiters wish.1)
    where
      go : (w : Wish) → waiter.wish ≡ w → WishHolds memory key waiter.wish → list_any (adds n) waiters ≡ false → list_any (adds n) (waiter ∷ waiters) ≡ false
      go ToFind e holds rest = rw e rest
      go (ToAdd h) e holds rest = let held = subst (WishHolds memory key) e holds in rw (e, not_it memory.charges (charge_by h) n none held.1) rest

  no_fill : (fills : List Fill) → AllWishes memory fills → list_any (λ (fill : Fill). list_any (adds n) fill.waiters) fills ≡ false
  no_fill [] wish = refl
  no_fill (fill ∷ fills) wish = rw (no_call fill.key fill.waiters wish.0) (no_fill fills wish.1)

kept_by_fills : (n : ℕ) (nvm : Option Nvm) → is_kept_in nvm n ≡ list_any (λ (fill : Fill). list_any (adds n) fill.waiters) (fills_of nvm)
kept_by_fills n None = refl
kept_by_fills n (Some nvm) = refl

-- ---- what was allocated

pub unkept : (pool : ℕ) (key : List ℕ) (size : ℕ) (cache : Cache) → Structured cache → is_kept_in (make_charge pool key size cache).cache.nvm (cache.memory.made + 1) ≡ false
unkept pool key size cache structured =
    let n : ℕ = cache.memory.made + 1 in
    let parts = parts_of cache.memory cache.nvm structured in
    let none = next_open cache.memory (items_of cache.memory.pools) (queue_of cache.nvm) (fills_of cache.nvm) (fills_of cache.nvm) parts.0 in
    let after = charge_stands pool key size cache all_of [] parts in
    kept_by_fills n (make_charge pool key size cache).cache.nvm
    ∙ ap (λ fills. list_any (λ (fill : Fill). list_any (adds n) fill.waiters) fills) after.fills
    ∙ no_fill cache.memory n none (fills_of cache.nvm) structured.wishes
