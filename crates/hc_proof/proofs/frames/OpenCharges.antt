-- An open charge is given up: the others stay open, and all else stays.
use Rattle.std.proofs.Common.{◌≡◌, inl, ℕ, ◌+◌, ◌≤◌, ◌==◌, Bool, true, false, not, ◌&&◌, List, [], ◌∷◌, ◌++◌, filter, Option, Some, None, refl, ap, ◌∙◌, arith, cond, bytes_eq}
use Rattle.hc_types.specs.Tally.{tally, count}
use Rattle.hc_types.specs.Config.{Config}
use Rattle.hc_types.specs.declared.config.FlashConfig.{FlashConfig}
use Rattle.hc_memory.specs.Item.{Item, Open, Handle, charge_by}
use Rattle.hc_memory.specs.Charges.{charge_at, closed, has_number, is_same, is_same_as, is_open}
use Rattle.hc_memory.specs.Memory.{Memory, after_free}
use Rattle.hc_memory.proofs.Books.{tally-closed, is_open-found, closed-none}
use Rattle.hc_memory.proofs.Making.{closed-less}
use Rattle.hc_memory.proofs.Sounds.{sound-fewer}
use Rattle.hc_history.specs.Note.{Note, Freed}
use Rattle.hc_history.specs.Books.{charges}
use Rattle.hc_history.specs.Pages.{bytes_at}
use Rattle.hc_history.specs.Lawful.{Allowed}
use Rattle.hc_machine.specs.Nvm.{Nvm, Wish, ToFind, ToAdd, Waiter, Fill, adds}
use Rattle.hc_machine.specs.Cache.{Cache, with_memory}
use Rattle.hc_machine.specs.items.Items.{open_has}
use Rattle.hc_invariant.specs.Tells.{ChargesTell, waiters_of}
use Rattle.hc_invariant.specs.Jobs.{WishHolds, AllWish, AllFill}
use Rattle.hc_proof.specs.frames.Midst.{FlashMidst, AllWishes, still}
use Rattle.hc_proof.specs.frames.Rest.{Rest}
use Rattle.hc_machine.proofs.items.Same.{Same-closed}
use Rattle.hc_proof.proofs.frames.Charges.{open_live}
use Rattle.hc_proof.proofs.frames.CallNotes.{quiet_freed, flash_still}
use Rattle.hc_machine.proofs.items.Numbers.{number-is}
use Rattle.hc_types.proofs.Tallies.{tally-append}
use Rattle.hc_engines.specs.Engine.{Pages}
use Rattle.hc_invariant.specs.Good.{fills_of}

-- ---- the others stay open

first_part : (a b : Bool) → (a && b) ≡ true → a ≡ true
first_part true b h = refl
first_part false b h = absurd cc

-- what is the same has the same number
same-number : (c d : Open) → is_same c d ≡ true → (c.number == d.number) ≡ true
same-number c d h = first_part (c.number == d.number) (c.pool == d.pool) (first_part ((c.number == d.number) && (c.pool == d.pool)) (bytes_eq c.key d.key) (first_part ((c.number == d.number) && (c.pool == d.pool) && bytes_eq c.key d.key) (c.size == d.size) h))

few_same : (c : Open) (xs : List Open) → count (is_same c) xs ≤ count (has_number c.number) xs
few_same c [] = omega arith
few_same c (x ∷ xs) = omega (arith, few_same c xs, step (is_same c x) (has_number c.number x) (same-number c x))
  where
    step : (a b : Bool) → (a ≡ true → b ≡ true) → ◌≤◌ (cond a 1 0) (cond b 1 0)
    step true true h = omega arith
    step true false h = absurd (let e = h refl in cc)
    step false b h = omega arith

-- the one that is found by its number is counted
found_same : (c : Open) (xs : List Open) (n : ℕ) → is_same_as c (charge_at n xs) ≡ true → 1 ≤ count (is_same c) xs
found_same c [] n h = absurd cc
found_same c (x ∷ xs) n h = step (has_number n x) (found_same c xs n) h
  where
    step : (b : Bool) → (is_same_as c (charge_at n xs) ≡ true → 1 ≤ count (is_same c) xs) → is_same_as c (cond b (Some x) (charge_at n xs)) ≡ true → 1 ≤ count (is_same c) (x ∷ xs)
    step true rest h = let one : ◌≡◌ {A = ℕ} (cond (is_same c x) 1 0) 1 = ap {B = ℕ} (λ b. cond b 1 0) h in omega (arith, one)
    step false rest h = omega (arith, rest h)

-- and the one that is counted is found, where no two have a number
same_found : (c : Open) (xs : List Open) → count (has_number c.number) xs ≤ 1 → 1 ≤ count (is_same c) xs → is_same_as c (charge_at c.number xs) ≡ true
same_found c [] one h = absurd (omega arith)
same_found c (x ∷ xs) one h = step (has_number c.number x) refl (is_same c x) refl (same_found c xs) one h
  where
    step : (b : Bool) → has_number c.number x ≡ b → (a : Bool) → is_same c x ≡ a → (count (has_number c.number) xs ≤ 1 → 1 ≤ count (is_same c) xs → is_same_as c (charge_at c.number xs) ≡ true)
        → cond b 1 0 + count (has_number c.number) xs ≤ 1 → 1 ≤ cond a 1 0 + count (is_same c) xs → is_same_as c (cond b (Some x) (charge_at c.number xs)) ≡ true
    step true e true f rest one h = f
    step true e false f rest one h = absurd (omega (arith, few_same c xs))
    step false e true f rest one h = absurd (let g : has_number c.number x ≡ true = same-number c x f in cc)
    step false e false f rest one h = rest (omega arith) (omega arith)

closed_others : (c : Open) (n : ℕ) (xs : List Open) (o : Option Open) → charge_at n xs ≡ o → (c.number == n) ≡ false → count (is_same c) (closed n xs) ≡ count (is_same c) xs
closed_others c n xs None e other = ap (λ ys. count (is_same c) ys) (closed-none n xs e)
closed_others c n xs (Some d) e other =
    let sum = tally-closed (λ (x : Open). cond (is_same c x) 1 0) n xs d e in
    let its : d.number ≡ n = number-is n xs d e in
    let not_it : is_same c d ≡ false = step (is_same c d) refl (ap (λ m. c.number == m) its ∙ other) in
    let none : ◌≡◌ {A = ℕ} (cond (is_same c d) 1 0) 0 = ap {B = ℕ} (λ b. cond b 1 0) not_it in
    omega (arith, sum, none)
  where
    step : (b : Bool) → is_same c d ≡ b → (c.number == d.number) ≡ false → is_same c d ≡ false
    step true f g = absurd (let k = same-number c d f in cc)
    step false f g = f

pub stays_open : (c : Open) (n : ℕ) (xs : List Open) → ((m : ℕ) → count (has_number m) xs ≤ 1) → (c.number == n) ≡ false → is_open c xs ≡ true → is_open c (closed n xs) ≡ true
stays_open c n xs one other h =
    same_found c (closed n xs) (omega (arith, one c.number, closed-less (λ (x : Open). cond (has_number c.number x) 1 0) n xs))
    (omega (arith, closed_others c n xs (charge_at n xs) refl other, found_same c xs c.number h))

-- ---- adds that wait

other_add : (n : ℕ) (memory : Memory) (key : List ℕ) (wish : Wish) → ((m : ℕ) → count (has_number m) memory.charges ≤ 1) → adds n (record { call = 0; wish = wish }) ≡ false → WishHolds memory key wish → WishHolds (after_free memory n) key wish
other_add n memory key ToFind one other h = tt
other_add n memory key (ToAdd handle) one other h = (h.0, stays_open (charge_by handle) n memory.charges one other h.1)

-- each holds, where none of them keeps the charge
pub wishes_stay : (n : ℕ) (memory : Memory) (key : List ℕ) (waiters : List Waiter) → ((m : ℕ) → count (has_number m) memory.charges ≤ 1) → count (adds n) waiters ≡ 0 → AllWish memory key waiters → AllWish (after_free memory n) key waiters
wishes_stay n memory key [] one none h = tt
wishes_stay n memory key (w ∷ ws) one none h = step (adds n w) refl (wishes_stay n memory key ws one) none
  where
    step : (b : Bool) → adds n w ≡ b → (count (adds n) ws ≡ 0 → AllWish memory key ws → AllWish (after_free memory n) key ws) → cond b 1 0 + count (adds n) ws ≡ 0 → AllWish (after_free memory n) key (w ∷ ws)
    step true e rest z = absurd (omega arith)
    step false e rest z = (other_add n memory key w.wish one e h.0, rest (omega arith) h.1)

pub fills_stay : (n : ℕ) (memory : Memory) (fills : List Fill) → ((m : ℕ) → count (has_number m) memory.charges ≤ 1) → count (adds n) (waiters_of fills) ≡ 0 → AllWishes memory fills → AllWishes (after_free memory n) fills
fills_stay n memory [] one none h = tt
fills_stay n memory (fill ∷ fills) one none h =
    let sum = tally-append (λ (w : Waiter). cond (adds n w) 1 0) fill.waiters (waiters_of fills) in
    (wishes_stay n memory fill.key fill.waiters one (omega (arith, none, sum)) h.0, fills_stay n memory fills one (omega (arith, none, sum)) h.1)

each_stays : (n : ℕ) (pages : Pages) (memory : Memory) (nvm : Nvm) (fills : List Fill) → ((m : ℕ) → count (has_number m) memory.charges ≤ 1) → count (adds n) (waiters_of fills) ≡ 0 → AllFill pages memory nvm fills → AllFill pages (after_free memory n) nvm fills
each_stays n pages memory nvm [] one none h = tt
each_stays n pages memory nvm (fill ∷ fills) one none h =
    let sum = tally-append (λ (w : Waiter). cond (adds n w) 1 0) fill.waiters (waiters_of fills) in (
      record { unlinked = h.0.unlinked; unqueued = h.0.unqueued; unburied = h.0.unburied; wishes = wishes_stay n memory fill.key fill.waiters one (omega (arith, none, sum)) h.0.wishes; brought = h.0.brought },
      each_stays n pages memory nvm fills one (omega (arith, none, sum)) h.1,
    )

-- fewer fills have no more calls that pass
pub fewer_wait : (test : Waiter → Bool) (p : Fill → Bool) (fills : List Fill) → count test (waiters_of (filter p fills)) ≤ count test (waiters_of fills)
fewer_wait test p [] = omega arith
fewer_wait test p (fill ∷ fills) = step (p fill) (fewer_wait test p fills)
  where
    step : (b : Bool) → count test (waiters_of (filter p fills)) ≤ count test (waiters_of fills) → count test (waiters_of (cond b (fill ∷ filter p fills) (filter p fills))) ≤ count test (fill.waiters ++ waiters_of fills)
    step true h = let f : Waiter → ℕ = λ w. cond (test w) 1 0 in omega (arith, h, tally-append f fill.waiters (waiters_of (filter p fills)), tally-append f fill.waiters (waiters_of fills))
    step false h = let f : Waiter → ℕ = λ w. cond (test w) 1 0 in omega (arith, h, tally-append f fill.waiters (waiters_of fills))

-- ---- the whole

flash_freed : (flash : Option FlashConfig) (older : List Note) (memory : Memory) (nvm : Option Nvm) (moves : List ℕ → Bool) (n : ℕ) → ((m : ℕ) → count (has_number m) memory.charges ≤ 1) → count (adds n) (waiters_of (fills_of nvm)) ≡ 0
    → FlashMidst flash older memory nvm moves → FlashMidst flash older (after_free memory n) nvm moves
flash_freed None older memory None moves n one none f = f
flash_freed None older memory (Some nvm) moves n one none f = absurd f
flash_freed (Some flash) older memory None moves n one none f = absurd f
flash_freed (Some flash) older memory (Some nvm) moves n one none f = record {
  engines = f.engines;
  waits = f.waits;
  jobs = f.jobs;
  fills = record {
    each = each_stays n (bytes_at older) memory nvm (still moves nvm.fills) one (omega (arith, none, fewer_wait (adds n) (λ (fill : Fill). not (moves fill.key)) nvm.fills)) f.fills.each;
    wishes = fills_stay n memory nvm.fills one none f.fills.wishes;
    one = f.fills.one;
    one_each = f.fills.one_each;
    one_add = f.fills.one_add;
  };
  pools = f.pools;
  adds = f.adds;
}

charges_closed : (older : List Note) (items : List Item) (opens : List Open) (made : ℕ) (c : Open) → charge_at c.number opens ≡ Some c → ChargesTell older items opens made → ChargesTell (Freed c.number ∷ older) items (closed c.number opens) made
charges_closed older items opens made c found t =
    let sum : (f : Open → ℕ) → tally f (closed c.number opens) + f c ≡ tally f opens = λ f. tally-closed f c.number opens c found in
    record {
      one_key = t.one_key;
      one_number = λ n. omega (arith, t.one_number n, sum (λ o. cond (open_has n o) 1 0));
      fresh = λ n later. omega (arith, t.fresh n later, sum (λ o. cond (open_has n o) 1 0));
      same = Same-closed (charges older) items opens (closed c.number opens) c sum (t.one_number c.number) t.same;
    }

pub freed_rest : (config : Config) (older : List Note) (cache : Cache) (handle : Handle) (items : List Item) (moves : List ℕ → Bool) → is_open (charge_by handle) cache.memory.charges ≡ true → count (adds handle.number) (waiters_of (fills_of cache.nvm)) ≡ 0
    → Rest config older cache items moves → Rest config (Freed handle.number ∷ older) (with_memory (after_free cache.memory handle.number) cache) items moves
freed_rest config older cache handle items moves known none r =
    let found = is_open-found (charge_by handle) cache.memory.charges known in
    record {
      own = r.own;
      sizes = r.sizes;
      flash_is = r.flash_is;
      sound = sound-fewer cache.memory.pools cache.memory.charges (closed handle.number cache.memory.charges) cache.memory.made r.sound (λ f. closed-less f handle.number cache.memory.charges);
      charges = charges_closed older items cache.memory.charges cache.memory.made (charge_by handle) found r.charges;
      placed = λ key here. r.placed key here;
      sized = r.sized;
      clock = r.clock;
      flash = flash_freed config.flash (Freed handle.number ∷ older) cache.memory cache.nvm moves handle.number r.sound.unique none (flash_still config.flash older (Freed handle.number ∷ older) cache.memory cache.nvm moves (quiet_freed older handle.number) r.flash);
    }

-- an open charge may be freed
pub free_allowed : (config : Config) (older : List Note) (cache : Cache) (handle : Handle) (items : List Item) (moves : List ℕ → Bool) (tail : List Note) → is_open (charge_by handle) cache.memory.charges ≡ true → Rest config older cache items moves
    → Allowed config older (Freed handle.number) tail
free_allowed config older cache handle items moves tail known r =
    inl (open_live older items cache.memory.charges cache.memory.made (charge_by handle) (λ f. tally-closed f handle.number cache.memory.charges (charge_by handle) (is_open-found (charge_by handle) cache.memory.charges known)) r.charges)
