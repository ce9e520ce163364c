-- A ticket stays fresh for a key until a key of its slot is changed.
use Rattle.std.proofs.Common.{◌≡◌, ◌≢◌, ℕ, zero, suc, ◌≤◌, ◌==◌, nat_lt, nat_le, Bool, true, false, not, ◌&&◌, ◌||◌, List, [], ◌∷◌, ◌++◌, length, replicate, Option, Some, None, refl, sym, ap, ◌∙◌, subst, arith, slice_index, slice_set, filter, find, length-set, get_or-set_other}
use Rattle.std.specs.Prelude.{if◌then◌else◌}
use Rattle.std.specs.List.{list_any}
use Rattle.std.proofs.lemmas.List.{length-replicate}
use Rattle.std.proofs.lemmas.List.Folds.{list_any-append}
use Rattle.hc_lease.specs.Stamps.{Stamps, slot_of, next_count, stamped, ticket_at, is_add_in, is_of_call, is_add, is_fresh, ended}
use Rattle.hc_lease.specs.Steps.{Step, Change, Wait, Answer, Reply, after, run, is_change_in, UnchangedIsFresh}
use Rattle.hc_lease.specs.declared.stamps.Adding.{Adding}
use Rattle.hc_lease.proofs.Stamping.{most, next-more}

-- ---- no slot is later than the count

record Counted (n : ℕ) (s : Stamps) : Type 0 where
  size : length s.slots ≡ n
  past : (q : ℕ) → slice_index s.slots q ≤ s.count

set-past : (xs : List ℕ) (r q new count : ℕ) → ((p : ℕ) → slice_index xs p ≤ count) → new ≤ count → slice_index (slice_set xs r new) q ≤ count
set-past [] r q new count h k = h q
set-past (x ∷ xs) zero zero new count h k = k
set-past (x ∷ xs) zero (suc q) new count h k = h (suc q)
set-past (x ∷ xs) (suc r) zero new count h k = h zero
set-past (x ∷ xs) (suc r) (suc q) new count h k = set-past xs r q new count (λ p. h (suc p)) k

counted-stamped : (n r : ℕ) (s : Stamps) → Counted n s → Counted n (stamped r s)
counted-stamped n r s c = record {
  size = length-set s.slots r (next_count s.count) ∙ c.size;
  past = λ q. set-past s.slots r q (next_count s.count) (next_count s.count) (λ p. next-more (slice_index s.slots p) s.count (c.past p)) (omega arith);
}

counted-ended : (n : ℕ) (o : Option Adding) (s : Stamps) → Counted n s → Counted n (ended o s)
counted-ended n None s c = c
counted-ended n (Some add) s c = counted-stamped n add.slot (record s { adds = filter (λ other. not (is_add add.call add.slot other)) s.adds }) (record { size = c.size; past = c.past })

counted-after : (n : ℕ) (step : Step) (s : Stamps) → Counted n s → Counted n (after step s)
counted-after n (Change key) s c = counted-stamped n (slot_of key (length s.slots)) s c
counted-after n (Wait call key) s c = record { size = c.size; past = c.past }
counted-after n (Answer call key) s c = c
counted-after n (Reply call) s c = counted-ended n (find (is_of_call call) s.adds) s c

counted-run : (n : ℕ) (steps : List Step) (s : Stamps) → Counted n s → Counted n (run steps s)
counted-run n [] s c = c
counted-run n (step ∷ steps) s c = counted-run n steps (after step s) (counted-after n step s c)

zeros : (n q : ℕ) → slice_index (replicate n 0) q ≡ 0
zeros zero q = refl
zeros (suc n) zero = refl
zeros (suc n) (suc q) = zeros n q

counted-new : (n : ℕ) (s : Stamps) → s.slots ≡ replicate n 0 → Counted n s
counted-new n s e = record {
  size = ap length e ∙ length-replicate n 0;
  past = λ q. let none : slice_index s.slots q ≡ 0 = ap (λ xs. slice_index xs q) e ∙ zeros n q in omega (arith, none);
}

-- ---- nothing bars the ticket

record IsOpen (n q t : ℕ) (s : Stamps) : Type 0 where
  size : length s.slots ≡ n
  past : slice_index s.slots q ≤ t
  adds : list_any (is_add_in q) s.adds ≡ false

open-stamped : (n q t r : ℕ) (s : Stamps) → (r == q) ≡ false → IsOpen n q t s → IsOpen n q t (stamped r s)
open-stamped n q t r s e o = record {
  size = length-set s.slots r (next_count s.count) ∙ o.size;
  past = let other : q ≢ r = grind (arith, e) in rw (get_or-set_other s.slots r q (next_count s.count) 0 other) o.past;
  adds = o.adds;
}

-- of adds of which none is in the slot: those that stay, and the one that is found
none-stays : (q : ℕ) (p : Adding → Bool) (adds : List Adding) → list_any (is_add_in q) adds ≡ false → list_any (is_add_in q) (filter p adds) ≡ false
none-stays q p [] h = h
none-stays q p (add ∷ adds) h = go (add.slot == q) (p add) refl h (none-stays q p adds)
  where
    go : (a b : Bool) → (add.slot == q) ≡ a → (a || list_any (is_add_in q) adds) ≡ false → (list_any (is_add_in q) adds ≡ false → list_any (is_add_in q) (filter p adds) ≡ false)
        → list_any (is_add_in q) (if b then add ∷ filter p adds else filter p adds) ≡ false
    go true b is h more = absurd (cc)
    go false false is h more = more h
    go false true is h more = ap (λ x. x || list_any (is_add_in q) (filter p adds)) is ∙ more h

none-found : (q call : ℕ) (add : Adding) (adds : List Adding) → list_any (is_add_in q) adds ≡ false → find (is_of_call call) adds ≡ Some add → (add.slot == q) ≡ false
none-found q call add [] h e = absurd (cc)
none-found q call add (x ∷ xs) h e = go (x.slot == q) (x.call == call) refl h e (none-found q call add xs)
  where
    go : (a b : Bool) → (x.slot == q) ≡ a → (a || list_any (is_add_in q) xs) ≡ false → (if b then Some x else find (is_of_call call) xs) ≡ Some add
        → (list_any (is_add_in q) xs ≡ false → find (is_of_call call) xs ≡ Some add → (add.slot == q) ≡ false) → (add.slot == q) ≡ false
    go true b is h e more = absurd (cc)
    go false true is h e more = let same : x ≡ add = cc in ap (λ (y : Adding). y.slot == q) (sym same) ∙ is
    go false false is h e more = more h e

open-ended : (n q t call : ℕ) (o : Option Adding) (s : Stamps) → find (is_of_call call) s.adds ≡ o → IsOpen n q t s → IsOpen n q t (ended o s)
open-ended n q t call None s e o = o
open-ended n q t call (Some add) s e o =
    open-stamped n q t add.slot (record s { adds = filter (λ other. not (is_add add.call add.slot other)) s.adds }) (none-found q call add s.adds o.adds e)
    (record { size = o.size; past = o.past; adds = none-stays q (λ other. not (is_add add.call add.slot other)) s.adds o.adds })

open-after : (n q t : ℕ) (step : Step) (s : Stamps) → is_change_in q n step ≡ false → IsOpen n q t s → IsOpen n q t (after step s)
open-after n q t (Change key) s e o = open-stamped n q t (slot_of key (length s.slots)) s (ap (λ m. slot_of key m == q) o.size ∙ e) o
open-after n q t (Wait call key) s e o = record {
  size = o.size;
  past = o.past;
  adds = list_any-append (is_add_in q) s.adds (record { call = call; slot = slot_of key (length s.slots) } ∷ [])
      ∙ (ap (λ b. b || ((slot_of key (length s.slots) == q) || false)) o.adds ∙ ap (λ b. b || false) (ap (λ m. slot_of key m == q) o.size ∙ e));
}
open-after n q t (Answer call key) s e o = o
open-after n q t (Reply call) s e o = open-ended n q t call (find (is_of_call call) s.adds) s refl o

open-run : (n q t : ℕ) (steps : List Step) (s : Stamps) → list_any (is_change_in q n) steps ≡ false → IsOpen n q t s → IsOpen n q t (run steps s)
open-run n q t [] s e o = o
open-run n q t (step ∷ steps) s e o = go (is_change_in q n step) refl e (open-run n q t steps (after step s))
  where
    go : (b : Bool) → is_change_in q n step ≡ b → (b || list_any (is_change_in q n) steps) ≡ false
        → (list_any (is_change_in q n) steps ≡ false → IsOpen n q t (after step s) → IsOpen n q t (run steps (after step s))) → IsOpen n q t (run steps (after step s))
    go true is e more = absurd (cc)
    go false is e more = more e (open-after n q t step s is o)

open-fresh : (n t : ℕ) (key : List ℕ) (s : Stamps) → IsOpen n (slot_of key n) t s → is_fresh key t s ≡ true
open-fresh n t key s o = go (slot_of key (length s.slots)) (ap (slot_of key) o.size)
  where
    go2 : (b : Bool) → nat_le (slice_index s.slots (slot_of key n)) t ≡ b → (b && true) ≡ true
    go2 true e = refl
    go2 false e = absurd (grind (arith, e, o.past))

    go : (q : ℕ) → q ≡ slot_of key n → (nat_le (slice_index s.slots q) t && not (list_any (is_add_in q) s.adds)) ≡ true
    go q e = rw e (rw o.adds (go2 (nat_le (slice_index s.slots (slot_of key n)) t) refl))

ticket-count : (s : Stamps) (t : ℕ) → ticket_at s ≡ Some t → s.count ≡ t
ticket-count s t h = go (nat_lt s.count most) h
  where
    go : (b : Bool) → (if b then Some s.count else None) ≡ Some t → s.count ≡ t
    go true h = cc
    go false h = absurd (cc)

run-append : (earlier later : List Step) (s : Stamps) → run (earlier ++ later) s ≡ run later (run earlier s)
run-append [] later s = refl
run-append (step ∷ earlier) later s = run-append earlier later (after step s)

pub unchanged-fresh : UnchangedIsFresh
unchanged-fresh n s earlier later key t new ticket adds later-none =
    let counted = counted-run n earlier s (counted-new n s new) in
    let begins : IsOpen n (slot_of key n) t (run earlier s) = record { size = counted.size; past = subst (λ x. slice_index (run earlier s).slots (slot_of key n) ≤ x) (ticket-count (run earlier s) t ticket) (counted.past (slot_of key n)); adds = adds } in
    ap (is_fresh key t) (run-append earlier later s) ∙ open-fresh n t key (run later (run earlier s)) (open-run n (slot_of key n) t later (run earlier s) later-none begins)
