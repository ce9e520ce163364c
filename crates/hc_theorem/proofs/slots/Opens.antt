-- An open charge goes, or comes: the slots' stay open.
use Rattle.std.proofs.Common.{◌≡◌, ℕ, ◌+◌, ◌≤◌, ◌==◌, Bool, true, false, not, List, [], ◌∷◌, ◌++◌, Option, Some, None, refl, ap, ◌∙◌, subst, arith, cond}
use Rattle.std.specs.Prelude.{if◌then◌else◌, nat_lt}
use Rattle.std.proofs.lemmas.Bool.{eqb-true}
use Rattle.std.proofs.lemmas.Option.{same_Some}
use Rattle.hc_types.specs.Tally.{tally, count}
use Rattle.hc_types.proofs.Tallies.{tally-ext, tally-push, find-none}
use Rattle.hc_memory.specs.Item.{Open, charge_by}
use Rattle.hc_memory.specs.Charges.{charge_at, closed, has_number, is_open}
use Rattle.hc_memory.proofs.Books.{tally-closed, is_open-found, found-is_open}
use Rattle.hc_machine.specs.items.Items.{open_has}
use Rattle.hc_machine.proofs.items.Numbers.{number-is}
use Rattle.hc_machine.specs.Schedule.{Slot, is_slot, slot_at, without_slot, with_slot}
use Rattle.hc_proof.proofs.frames.ByNumber.{same_number, or_find, find-append}
use Rattle.hc_proof.proofs.frames.OpenCharges.{stays_open}
use Rattle.hc_theorem.specs.slots.Opens.{holds, AllOpen}
use Rattle.hc_theorem.specs.slots.Opens.{Opens}
use Rattle.hc_proof.proofs.jobs.LargeFrame.{turned}

pub has-is : (n : ℕ) (xs : List Open) → count (has_number n) xs ≡ count (open_has n) xs
has-is n xs = tally-ext (λ x. cond (has_number n x) 1 0) (λ x. cond (open_has n x) 1 0) (λ x. ap {B = ℕ} (λ b. cond b 1 0) (turned n x.number)) xs

none_there : (n : ℕ) (xs : List Open) → charge_at n xs ≡ None → count (has_number n) xs ≡ 0
none_there n [] e = refl
none_there n (x ∷ xs) e = go (has_number n x) (none_there n xs) e
  where
    go : (t : Bool) → (charge_at n xs ≡ None → count (has_number n) xs ≡ 0) → cond t (Some x) (charge_at n xs) ≡ None → cond t 1 0 + count (has_number n) xs ≡ 0
    go true rest e = absurd cc
    go false rest e = omega (arith, rest e)

-- ---- one is closed

pub closed_counts : (m : ℕ) (xs : List Open) → 1 ≤ count (open_has m) xs → (n : ℕ) → count (open_has n) (closed m xs) + cond (m == n) 1 0 ≡ count (open_has n) xs
closed_counts m xs there n = go (charge_at m xs) refl
  where
    go : (o : Option Open) → charge_at m xs ≡ o → count (open_has n) (closed m xs) + cond (m == n) 1 0 ≡ count (open_has n) xs
    go None e = absurd (let z = none_there m xs e in let s = has-is m xs in omega (arith, z, s, there))
    go (Some c) e =
        let sum = tally-closed (λ (x : Open). cond (open_has n x) 1 0) m xs c e in
        let same : ◌≡◌ {A = ℕ} (cond (c.number == n) 1 0) (cond (m == n) 1 0) = ap {B = ℕ} (λ k. cond (k == n) 1 0) (number-is m xs c e) in
        omega (arith, sum, same)

pub others_open : (m : ℕ) (xs : List Open) (slots : List Slot) → ((n : ℕ) → count (open_has n) xs ≤ 1) → count (holds m) slots ≡ 0 → AllOpen xs slots → AllOpen (closed m xs) slots
others_open m xs [] one none h = tt
others_open m xs (slot ∷ slots) one none h = go (slot.handle.number == m) refl none (λ z. others_open m xs slots one z h.1)
  where
    go : (t : Bool) → (slot.handle.number == m) ≡ t → cond t 1 0 + count (holds m) slots ≡ 0 → (count (holds m) slots ≡ 0 → AllOpen (closed m xs) slots) → AllOpen (closed m xs) (slot ∷ slots)
    go true e none rest = absurd (omega (arith, none))
    go false e none rest = (stays_open (charge_by slot.handle) m xs (λ k. omega (arith, one k, has-is k xs)) e h.0, rest (omega (arith, none)))

-- one of the others goes
pub other_goes : (slots : List Slot) (m : ℕ) (more less : ℕ → ℕ) (xs : List Open) → ((n : ℕ) → more n ≡ cond (m == n) 1 0 + less n) → Opens slots more xs → Opens slots less (closed m xs)
other_goes slots m more less xs split h =
    let own : (m == m) ≡ true = grind arith in
    let one : ◌≡◌ {A = ℕ} (cond (m == m) 1 0) 1 = ap {B = ℕ} (λ b. cond b 1 0) own in
    let there : 1 ≤ count (open_has m) xs = omega (arith, h.held m, split m, one) in
    let counts = closed_counts m xs there in
    record {
      held = λ n. omega (arith, counts n, h.held n, split n);
      unique = λ n. omega (arith, counts n, h.unique n);
      known = others_open m xs slots h.unique (omega (arith, h.held m, split m, one, h.unique m)) h.known;
    }

-- ---- one slot's goes, with the slot

all_left : (number : ℕ) (slots : List Slot) → count (is_slot number) slots ≡ 0 → without_slot number slots ≡ slots
all_left number [] z = refl
all_left number (y ∷ ys) z = step (is_slot number y) (all_left number ys) z
  where
    step : (t : Bool) → (count (is_slot number) ys ≡ 0 → without_slot number ys ≡ ys) → cond t 1 0 + count (is_slot number) ys ≡ 0 → (if not t then y ∷ without_slot number ys else without_slot number ys) ≡ y ∷ ys
    step true rest z = absurd (omega (arith, z))
    step false rest z = ap (λ l. y ∷ l) (rest (omega (arith, z)))

pub slot_counts : (number : ℕ) (slots : List Slot) (slot : Slot) → slot_at number slots ≡ Some slot → count (is_slot number) slots ≤ 1 → (f : Slot → ℕ) → tally f (without_slot number slots) + f slot ≡ tally f slots
slot_counts number [] slot e one f = absurd cc
slot_counts number (x ∷ slots) slot e one f = go (is_slot number x) refl e one (slot_counts number slots slot)
  where
    go : (t : Bool) → is_slot number x ≡ t → (if t then Some x else slot_at number slots) ≡ Some slot → cond t 1 0 + count (is_slot number) slots ≤ 1
        → (slot_at number slots ≡ Some slot → count (is_slot number) slots ≤ 1 → (f : Slot → ℕ) → tally f (without_slot number slots) + f slot ≡ tally f slots)
        → tally f (if not t then x ∷ without_slot number slots else without_slot number slots) + f slot ≡ f x + tally f slots
    go true i e one rest =
        let same : x ≡ slot = same_Some x slot e in
        let still = ap (tally f) (all_left number slots (omega (arith, one))) in
        let its = ap f same in
        omega (arith, still, its)
    go false i e one rest = let r = rest e (omega (arith, one)) f in omega (arith, r)

pub some_open : (number : ℕ) (xs : List Open) (slots : List Slot) → AllOpen xs slots → AllOpen xs (without_slot number slots)
some_open number xs [] h = tt
some_open number xs (slot ∷ slots) h = go (is_slot number slot) (some_open number xs slots h.1)
  where
    go : (t : Bool) → AllOpen xs (without_slot number slots) → AllOpen xs (if not t then slot ∷ without_slot number slots else without_slot number slots)
    go true rest = rest
    go false rest = (h.0, rest)

pub slot_goes : (slots : List Slot) (number : ℕ) (slot : Slot) (more : ℕ → ℕ) (xs : List Open) → slot_at number slots ≡ Some slot → count (is_slot number) slots ≤ 1 → Opens slots more xs → Opens (without_slot number slots) more (closed slot.handle.number xs)
slot_goes slots number slot more xs at one h =
    let m = slot.handle.number in
    let counts = slot_counts number slots slot at one in
    let own : ◌≡◌ {A = ℕ} (cond (m == m) 1 0) 1 = ap {B = ℕ} (λ b. cond b 1 0) (same_number m) in
    let its : (n : ℕ) → count (holds n) (without_slot number slots) + cond (m == n) 1 0 ≡ count (holds n) slots = λ n. counts (λ (s : Slot). cond (holds n s) 1 0) in
    other_goes (without_slot number slots) m (λ n. cond (m == n) 1 0 + more n) more xs (λ n. refl)
    (record {
      held = λ n. omega (arith, h.held n, its n);
      unique = h.unique;
      known = some_open number xs slots h.known;
    })

-- ---- one comes, with its slot

pub with_counts : (slot : Slot) (slots : List Slot) (f : Slot → ℕ) → tally f (with_slot slot slots) ≡ f slot + tally f slots
with_counts slot [] f = refl
with_counts slot (other ∷ others) f = go (nat_lt slot.number other.number) (with_counts slot others f)
  where
    go : (t : Bool) → tally f (with_slot slot others) ≡ f slot + tally f others → tally f (if t then slot ∷ other ∷ others else other ∷ with_slot slot others) ≡ f slot + (f other + tally f others)
    go true h = refl
    go false h = omega (arith, h)

open_more : (c : Open) (d : Open) (xs : List Open) → is_open c xs ≡ true → is_open c (xs ++ d ∷ []) ≡ true
open_more c d xs h = found-is_open c (xs ++ d ∷ []) (find-append (has_number c.number) xs (d ∷ []) ∙ ap (λ o. or_find o (charge_at c.number (d ∷ []))) (is_open-found c xs h))

pub opens_more : (d : Open) (xs : List Open) (slots : List Slot) → AllOpen xs slots → AllOpen (xs ++ d ∷ []) slots
opens_more d xs [] h = tt
opens_more d xs (slot ∷ slots) h = (open_more (charge_by slot.handle) d xs h.0, opens_more d xs slots h.1)

with_open : (slot : Slot) (xs : List Open) (slots : List Slot) → is_open (charge_by slot.handle) xs ≡ true → AllOpen xs slots → AllOpen xs (with_slot slot slots)
with_open slot xs [] own h = (own, tt)
with_open slot xs (other ∷ others) own h = go (nat_lt slot.number other.number) (with_open slot xs others own h.1)
  where
    go : (t : Bool) → AllOpen xs (with_slot slot others) → AllOpen xs (if t then slot ∷ other ∷ others else other ∷ with_slot slot others)
    go true rest = (own, h)
    go false rest = (h.0, rest)

-- its charge is the last, and new
new_open : (c : Open) (xs : List Open) → count (open_has c.number) xs ≡ 0 → is_open c (xs ++ c ∷ []) ≡ true
new_open c xs none =
    found-is_open c (xs ++ c ∷ [])
    (find-append (has_number c.number) xs (c ∷ []) ∙ ap (λ o. or_find o (charge_at c.number (c ∷ []))) (find-none (has_number c.number) xs (has-is c.number xs ∙ none)) ∙ ap (λ b. cond b (Some c) None) (same_number c.number))

pub slot_comes : (slots : List Slot) (slot : Slot) (more : ℕ → ℕ) (xs : List Open) → count (open_has slot.handle.number) xs ≡ 0 → Opens slots more xs → Opens (with_slot slot slots) more (xs ++ charge_by slot.handle ∷ [])
slot_comes slots slot more xs none h =
    let c = charge_by slot.handle in
    let push : (n : ℕ) → count (open_has n) (xs ++ c ∷ []) ≡ count (open_has n) xs + cond (c.number == n) 1 0 = λ n. tally-push (λ (x : Open). cond (open_has n x) 1 0) xs c in
    record {
      held = λ n. omega (arith, push n, h.held n, with_counts slot slots (λ (s : Slot). cond (holds n s) 1 0));
      unique = λ n. once n (c.number == n) refl;
      known = with_open slot (xs ++ c ∷ []) slots (new_open c xs none) (opens_more c xs slots h.known);
    }
  where
    once : (n : ℕ) (t : Bool) → (slot.handle.number == n) ≡ t → count (open_has n) (xs ++ charge_by slot.handle ∷ []) ≤ 1
    once n true e =
        let same : count (open_has n) xs ≡ 0 = subst (λ (m : ℕ). count (open_has m) xs ≡ 0) (eqb-true slot.handle.number n e) none in
        let one : ◌≡◌ {A = ℕ} (cond (slot.handle.number == n) 1 0) 1 = ap {B = ℕ} (λ b. cond b 1 0) e in
        omega (arith, same, one, tally-push (λ (x : Open). cond (open_has n x) 1 0) xs (charge_by slot.handle))
    once n false e =
        let zero : ◌≡◌ {A = ℕ} (cond (slot.handle.number == n) 1 0) 0 = ap {B = ℕ} (λ b. cond b 1 0) e in
        omega (arith, h.unique n, zero, tally-push (λ (x : Open). cond (open_has n x) 1 0) xs (charge_by slot.handle))
