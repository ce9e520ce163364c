-- Which add keeps a charge is told by the fill of the handle's key.
use Rattle.std.proofs.Common.{◌≡◌, ℕ, ◌≤◌, ◌==◌, Bool, true, false, List, [], ◌∷◌, Option, Some, None, refl, sym, ap, ◌∙◌, subst, arith}
use Rattle.std.specs.List.{list_any}
use Rattle.std.specs.Str.{bytes_eq}
use Rattle.std.proofs.lemmas.Bool.{eqb-true}
use Rattle.std.proofs.lemmas.Slice.Eq.{bytes_eq-Decides}
use Rattle.hc_types.specs.Tally.{count}
use Rattle.hc_memory.specs.Item.{Open, Handle, charge_by}
use Rattle.hc_memory.specs.Charges.{is_open, charge_at}
use Rattle.hc_memory.specs.Memory.{Memory}
use Rattle.hc_memory.proofs.Books.{is_open-found}
use Rattle.hc_machine.specs.Nvm.{Nvm, Wish, ToFind, ToAdd, Waiter, Fill, is_fill_of, fill_at, adds}
use Rattle.hc_machine.specs.Cache.{Cache}
use Rattle.hc_machine.specs.Calls.{is_kept_in}
use Rattle.hc_invariant.specs.Jobs.{WishHolds, AllWish, AllWishes}
use Rattle.hc_invariant.specs.Good.{fills_of}
use Rattle.hc_invariant.specs.Structure.{Structured}
use Rattle.hc_waiting.specs.Fills as fills
use Rattle.hc_state.specs.wait.Begin.{keeps_in}

-- one of these calls is an add that keeps the charge
abbrev any_adds : ℕ → List Fill → Bool
any_adds number all = list_any (λ (fill : Fill). list_any (adds number) fill.waiters) all

module _ (memory : Memory) (handle : Handle) (there : is_open (charge_by handle) memory.charges ≡ true) where
  -- who keeps the handle's charge waits for the handle's key
  own_key : (key : List ℕ) (other : Handle) → WishHolds memory key (ToAdd other) → (other.number == handle.number) ≡ true → handle.key ≡ key
  own_key key other holds same =
      let number : other.number ≡ handle.number = eqb-true other.number handle.number same in
      let ours : charge_at handle.number memory.charges ≡ Some (charge_by handle) = is_open-found (charge_by handle) memory.charges there in
      let theirs : charge_at other.number memory.charges ≡ Some (charge_by other) = is_open-found (charge_by other) memory.charges holds.1 in
      let both : Some (charge_by handle) ≡ Some (charge_by other) = sym ours ∙ ap (λ n. charge_at n memory.charges) (sym number) ∙ theirs in
      keys both ∙ holds.0
    where
      key_in : Option Open → List ℕ
      key_in None = handle.key
      key_in (Some charge) = charge.key

      keys : Some (charge_by handle) ≡ Some (charge_by other) → handle.key ≡ other.key
      keys e = ap key_in e

  -- calls that wait for another key keep another charge
  other_waiters : (key : List ℕ) (waiters : List Waiter) → bytes_eq key handle.key ≡ false → AllWish memory key waiters → list_any (adds handle.number) waiters ≡ false
  other_waiters key [] other wish = refl
  other_waiters key (waiter ∷ waiters) other wish = go waiter.wish refl wish.0 (other_waiters key waiters other wish.1)
    where
      by : (b : Bool) (h : Handle) → waiter.wish ≡ ToAdd h → WishHolds memory key (ToAdd h) → (h.number == handle.number) ≡ b → list_any (adds handle.number) waiters ≡ false → list_any (adds handle.number) (waiter ∷ waiters) ≡ false
      by true h e holds same rest = absurd (let is : handle.key ≡ key = own_key key h holds same in grind (arith, other, is, bytes_eq-Decides key handle.key))
      by false h e holds same rest = rw (e, same) rest

      go : (wish : Wish) → waiter.wish ≡ wish → WishHolds memory key waiter.wish → list_any (adds handle.number) waiters ≡ false → list_any (adds handle.number) (waiter ∷ waiters) ≡ false
      go ToFind e holds rest = rw e rest
      go (ToAdd h) e holds rest = by (h.number == handle.number) h e (subst (WishHolds memory key) e holds) refl rest

  none_of_key : (all : List Fill) → count (is_fill_of handle.key) all ≡ 0 → AllWishes memory all → any_adds handle.number all ≡ false
  none_of_key [] none wish = refl
  none_of_key (fill ∷ all) none wish = go (is_fill_of handle.key fill) refl none (λ more. none_of_key all more wish.1)
    where
      go : (b : Bool) → is_fill_of handle.key fill ≡ b → count (is_fill_of handle.key) (fill ∷ all) ≡ 0 → (count (is_fill_of handle.key) all ≡ 0 → any_adds handle.number all ≡ false) → any_adds handle.number (fill ∷ all) ≡ false
      go true p none more = absurd (grind (arith, p, none))
      go false p none more = rw (other_waiters fill.key fill.waiters p wish.0) (more (grind (arith, p, none)))

  told_by_key : (all : List Fill) → count (is_fill_of handle.key) all ≤ 1 → AllWishes memory all → fills.is_kept_in handle.number (fill_at handle.key all) ≡ any_adds handle.number all
  told_by_key [] one wish = refl
  told_by_key (fill ∷ all) one wish = go (is_fill_of handle.key fill) refl one (λ less. told_by_key all less wish.1)
    where
      here : (b : Bool) → list_any (adds handle.number) fill.waiters ≡ b → any_adds handle.number all ≡ false → b ≡ any_adds handle.number (fill ∷ all)
      here true p none = rw p refl
      here false p none = rw p (sym none)

      go : (b : Bool) → is_fill_of handle.key fill ≡ b → count (is_fill_of handle.key) (fill ∷ all) ≤ 1 → (count (is_fill_of handle.key) all ≤ 1 → fills.is_kept_in handle.number (fill_at handle.key all) ≡ any_adds handle.number all) → fills.is_kept_in handle.number (fill_at handle.key (fill ∷ all)) ≡ any_adds handle.number (fill ∷ all)
      go true p one more = rw p (here (list_any (adds handle.number) fill.waiters) refl (none_of_key all (grind (arith, p, one)) wish.1))
      go false p one more = rw (p, other_waiters fill.key fill.waiters p wish.0) (more (grind (arith, p, one)))

-- so it is in the whole cache
pub keeps-known : (cache : Cache) (handle : Handle) → Structured cache → is_open (charge_by handle) cache.memory.charges ≡ true → keeps_in cache.nvm handle.key handle.number ≡ is_kept_in cache.nvm handle.number
keeps-known cache handle structured there = go cache.nvm structured.wishes (omega (arith, structured.one_place handle.key))
  where
    go : (nvm : Option Nvm) → AllWishes cache.memory (fills_of nvm) → count (is_fill_of handle.key) (fills_of nvm) ≤ 1 → keeps_in nvm handle.key handle.number ≡ is_kept_in nvm handle.number
    go None wish one = refl
    go (Some nvm) wish one = told_by_key cache.memory handle there nvm.fills one wish
