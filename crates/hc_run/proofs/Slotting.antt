-- Slots that are filled and emptied.
use Rattle.std.proofs.Common.{◌≡◌, sym, ℕ, zero, suc, ◌+◌, ◌<◌, ◌==◌, Bool, true, false, not, List, [], ◌∷◌, Option, Some, None, length, get_or, slice_set, refl, ap, subst, ◌∙◌, arith, zero-add}
use Rattle.std.specs.Prelude.{if◌then◌else◌, nat_lt, option_map, is_some}
use Rattle.std.proofs.lemmas.List.{set-set, set-get_or, get_or_read}
use Rattle.hc_memory.specs.Item.{Handle}
use Rattle.hc_machine.specs.Schedule.{Slot, slot_at, without_slot, with_slot}
use Rattle.hc_run.specs.Slots.{handle_in, filled_from}

abbrev slot_of : ℕ → Handle → Slot
slot_of number handle = record { number = number; handle = handle }

-- ---- numbers

apart : (n i : ℕ) → (n == n + suc i) ≡ false
apart n i = grind arith

one : (n : ℕ) → (n == n + 0) ≡ true
one n = grind arith

before : (n i : ℕ) → nat_lt (n + suc i) n ≡ false
before n i = grind arith

moved : (n i : ℕ) → n + suc i ≡ suc n + i
moved n i = omega arith

-- ---- what stands before

none_at : (k n : ℕ) (slots : List (Option Handle)) → k < n → slot_at k (filled_from n slots) ≡ None
none_at k n [] less = refl
none_at k n (None ∷ slots) less = none_at k (suc n) slots (omega (arith, less))
none_at k n (Some handle ∷ slots) less =
    let other : (n == k) ≡ false = grind (arith, less) in
    ap (λ (t : Bool). if t then Some (slot_of n handle) else slot_at k (filled_from (suc n) slots)) other ∙ none_at k (suc n) slots (omega (arith, less))

all_left : (k n : ℕ) (slots : List (Option Handle)) → k < n → without_slot k (filled_from n slots) ≡ filled_from n slots
all_left k n [] less = refl
all_left k n (None ∷ slots) less = all_left k (suc n) slots (omega (arith, less))
all_left k n (Some handle ∷ slots) less =
    let other : (n == k) ≡ false = grind (arith, less) in
    let rest = all_left k (suc n) slots (omega (arith, less)) in
    ap (λ (t : Bool). if not t then slot_of n handle ∷ without_slot k (filled_from (suc n) slots) else without_slot k (filled_from (suc n) slots)) other ∙ ap (λ (all : List Slot). slot_of n handle ∷ all) rest

first_comes : (k n : ℕ) (handle : Handle) (slots : List (Option Handle)) → k < n → with_slot (slot_of k handle) (filled_from n slots) ≡ slot_of k handle ∷ filled_from n slots
first_comes k n handle [] less = refl
first_comes k n handle (None ∷ slots) less = first_comes k (suc n) handle slots (omega (arith, less))
first_comes k n handle (Some other ∷ slots) less =
    let first : nat_lt k n ≡ true = grind (arith, less) in
    ap (λ (t : Bool). if t then slot_of k handle ∷ slot_of n other ∷ filled_from (suc n) slots else slot_of n other ∷ with_slot (slot_of k handle) (filled_from (suc n) slots)) first

-- ---- one slot

at_from : (n i : ℕ) (slots : List (Option Handle)) → slot_at (n + i) (filled_from n slots) ≡ option_map (slot_of (n + i)) (handle_in i slots)
at_from n i [] = refl
at_from n zero (None ∷ slots) = none_at (n + 0) (suc n) slots (omega arith)
at_from n (suc i) (None ∷ slots) = rw (moved n i) (at_from (suc n) i slots)
at_from n zero (Some handle ∷ slots) =
    ap (λ (t : Bool). if t then Some (slot_of n handle) else slot_at (n + 0) (filled_from (suc n) slots)) (one n) ∙ (let e : n ≡ n + 0 = omega arith in ap (λ (k : ℕ). Some (slot_of k handle)) e)
at_from n (suc i) (Some handle ∷ slots) =
    ap (λ (t : Bool). if t then Some (slot_of n handle) else slot_at (n + suc i) (filled_from (suc n) slots)) (apart n i) ∙ rw (moved n i) (at_from (suc n) i slots)

without_from : (n i : ℕ) (slots : List (Option Handle)) → without_slot (n + i) (filled_from n slots) ≡ filled_from n (slice_set slots i None)
without_from n i [] = refl
without_from n zero (None ∷ slots) = all_left (n + 0) (suc n) slots (omega arith)
without_from n (suc i) (None ∷ slots) = rw (moved n i) (without_from (suc n) i slots)
without_from n zero (Some handle ∷ slots) =
    ap (λ (t : Bool). if not t then slot_of n handle ∷ without_slot (n + 0) (filled_from (suc n) slots) else without_slot (n + 0) (filled_from (suc n) slots)) (one n) ∙ all_left (n + 0) (suc n) slots (omega arith)
without_from n (suc i) (Some handle ∷ slots) =
    ap (λ (t : Bool). if not t then slot_of n handle ∷ without_slot (n + suc i) (filled_from (suc n) slots) else without_slot (n + suc i) (filled_from (suc n) slots)) (apart n i)
    ∙ ap (λ (all : List Slot). slot_of n handle ∷ all) (rw (moved n i) (without_from (suc n) i slots))

with_from : (n i : ℕ) (handle : Handle) (slots : List (Option Handle)) → i < length slots → handle_in i slots ≡ None → with_slot (slot_of (n + i) handle) (filled_from n slots) ≡ filled_from n (slice_set slots i (Some handle))
with_from n i handle [] within empty = absurd (omega (arith, within))
with_from n zero handle (None ∷ slots) within empty = first_comes (n + 0) (suc n) handle slots (omega arith) ∙ (let e : n + 0 ≡ n = omega arith in ap (λ (k : ℕ). slot_of k handle ∷ filled_from (suc n) slots) e)
with_from n (suc i) handle (None ∷ slots) within empty = rw (moved n i) (with_from (suc n) i handle slots (omega (arith, within)) empty)
with_from n zero handle (Some other ∷ slots) within empty = absurd cc
with_from n (suc i) handle (Some other ∷ slots) within empty =
    ap (λ (t : Bool). if t then slot_of (n + suc i) handle ∷ slot_of n other ∷ filled_from (suc n) slots else slot_of n other ∷ with_slot (slot_of (n + suc i) handle) (filled_from (suc n) slots)) (before n i)
    ∙ ap (λ (all : List Slot). slot_of n other ∷ all) (rw (moved n i) (with_from (suc n) i handle slots (omega (arith, within)) empty))

-- ---- of all slots

module _ (slots : List (Option Handle)) (i : ℕ) where
  pub at-is : slot_at i (filled_from 0 slots) ≡ option_map (slot_of i) (handle_in i slots)
  at-is = subst (λ (k : ℕ). slot_at k (filled_from 0 slots) ≡ option_map (slot_of k) (handle_in i slots)) (zero-add i) (at_from 0 i slots)

  pub without-is : without_slot i (filled_from 0 slots) ≡ filled_from 0 (slice_set slots i None)
  without-is = subst (λ (k : ℕ). without_slot k (filled_from 0 slots) ≡ filled_from 0 (slice_set slots i None)) (zero-add i) (without_from 0 i slots)

  pub with-is : (handle : Handle) → i < length slots → handle_in i slots ≡ None → with_slot (slot_of i handle) (filled_from 0 slots) ≡ filled_from 0 (slice_set slots i (Some handle))
  with-is handle within empty = subst (λ (k : ℕ). with_slot (slot_of k handle) (filled_from 0 slots) ≡ filled_from 0 (slice_set slots i (Some handle))) (zero-add i) (with_from 0 i handle slots within empty)

-- a handle that was taken out and is put back stands where it stood
pub put-back : (slots taken back : List (Option Handle)) (slot : ℕ) (handle same : Handle) → handle_in slot slots ≡ Some handle → taken ≡ slice_set slots slot None → same ≡ handle → back ≡ slice_set taken slot (Some same) → back ≡ slots
put-back slots taken back slot handle same is out e in_place =
    in_place
    ∙ (λ i. slice_set (out i) slot (Some (e i)))
    ∙ set-set slots slot None (Some handle)
    ∙ ap (slice_set slots slot) (sym is)
    ∙ set-get_or slots slot None

-- an empty slot is emptied
pub set-none : (slots : List (Option Handle)) (slot : ℕ) → handle_in slot slots ≡ None → slice_set slots slot None ≡ slots
set-none slots slot is = ap (slice_set slots slot) (sym is) ∙ set-get_or slots slot None

-- ---- what is read of a slot

some-held : (held : Option Handle) → is_some held ≡ true → (handle : Handle) × (held ≡ Some handle)
some-held None h = absurd cc
some-held (Some handle) h = (handle, refl)

pub none-held : (held : Option Handle) → is_some held ≡ false → held ≡ None
none-held None h = refl
none-held (Some handle) h = absurd cc

-- what was read at the slot's place
pub read-is : (slots : List (Option Handle)) (at slot : ℕ) (held : Option Handle) (b r : Bool) → at ≡ slot → slot < length slots → held ≡ get_or slots at held → r ≡ is_some held → r ≡ b → is_some (handle_in slot slots) ≡ b
read-is slots at slot held b r same within read is known = ap is_some (sym (get_or_read slots slot held within (read ∙ ap (λ (n : ℕ). get_or slots n held) same) None)) ∙ sym is ∙ known

-- a slot that is filled has a handle
pub filled-has : (slots : List (Option Handle)) (slot : ℕ) → is_some (handle_in slot slots) ≡ true → (handle : Handle) × (handle_in slot slots ≡ Some handle)
filled-has slots slot h = some-held (handle_in slot slots) h

pub at-none : (slots : List (Option Handle)) (slot : ℕ) → handle_in slot slots ≡ None → slot_at slot (filled_from 0 slots) ≡ None
at-none slots slot is = at-is slots slot ∙ ap (option_map (slot_of slot)) is

pub at-some : (slots : List (Option Handle)) (slot : ℕ) (handle : Handle) → handle_in slot slots ≡ Some handle → slot_at slot (filled_from 0 slots) ≡ Some (slot_of slot handle)
at-some slots slot handle is = at-is slots slot ∙ ap (option_map (slot_of slot)) is
