-- The two parts of the structure, and how they change: less of it, a charge freed, a charge opened, an item linked, an item left.
use Rattle.std.proofs.Common.{◌≡◌, ℕ, ◌+◌, ◌<◌, ◌≤◌, ◌==◌, Bool, true, false, List, [], ◌∷◌, ◌++◌, Option, refl, ap, sym, ◌∙◌, arith, cond, subst}
use Rattle.std.proofs.lemmas.Bool.{eqb-true, eq-eqb}
use Rattle.hc_types.specs.Tally.{tally, count}
use Rattle.hc_types.proofs.Tallies.{tally-push}
use Rattle.hc_types.specs.FlashEntry.{FlashEntry}
use Rattle.hc_memory.specs.Item.{Item, Open, Handle, charge_by, item_by}
use Rattle.hc_memory.specs.Pool.{is_at}
use Rattle.hc_memory.specs.Charges.{has_number, closed, is_open}
use Rattle.hc_memory.specs.Memory.{Memory, after_free}
use Rattle.hc_memory.proofs.Books.{tally-closed, is_open-found}
use Rattle.hc_memory.proofs.Making.{closed-less}
use Rattle.hc_memory.proofs.Keyed.{same_bytes}
use Rattle.hc_machine.specs.items.Items.{items_of, item_has, open_has}
use Rattle.hc_machine.proofs.items.Items.{bytes_eq-sym}
use Rattle.hc_machine.specs.Nvm.{Nvm, Fill, is_put_of, is_fill_of, adds}
use Rattle.hc_machine.specs.Evicting.{with_charge, entry_of_item}
use Rattle.hc_invariant.specs.Tells.{waiters_of}
use Rattle.hc_invariant.specs.Structure.{Structure}
use Rattle.hc_proof.proofs.frames.OpenCharges.{fills_stay}
use Rattle.hc_proof.proofs.evicting.FlashMemory.{StayOpen, all_wishes, open_more}
use Rattle.hc_proof.specs.structure.Parts.{Held, Midst, all_of, FewerItems, FewerPuts, FewerFills, FewerWait}

-- ---- the whole and its parts

pub parts_of : (memory : Memory) (nvm : Option Nvm) → Structure memory nvm → Midst memory (items_of memory.pools) nvm all_of []
parts_of memory nvm s = (
  record { one_place = s.one_place; one_number = s.one_number; fresh = s.fresh; wishes = s.wishes; one_add = s.one_add },
  record { one_stone = s.one_stone; jobs = s.jobs },
  s.flash,
)

pub whole_of : (memory : Memory) (nvm : Option Nvm) → Midst memory (items_of memory.pools) nvm all_of [] → Structure memory nvm
whole_of memory nvm m = record { one_place = m.0.one_place; one_number = m.0.one_number; fresh = m.0.fresh; wishes = m.0.wishes; one_add = m.0.one_add; one_stone = m.1.one_stone; jobs = m.1.jobs; flash = m.2 }

-- ---- less of it

pub same_wait : (fills : List Fill) → FewerWait fills fills
same_wait fills = record { wishes = λ memory h. h; adds = λ n. omega arith }

-- the same charges
pub record SameCharges (old new : Memory) : Type 0 where
  pub charges : new.charges ≡ old.charges
  pub made : new.made ≡ old.made

stay_same : (old new : List Open) → new ≡ old → StayOpen old new
stay_same old new e c h = ap (is_open c) e ∙ h

pub held_less : (memory memory' : Memory) (items items' : List Item) (queue queue' : List FlashEntry) (seen seen' all all' : List Fill) → SameCharges memory memory' → FewerItems items items' → FewerPuts queue queue' → FewerFills seen seen' → FewerWait all all'
    → Held memory items queue seen all → Held memory' items' queue' seen' all'
held_less memory memory' items items' queue queue' seen seen' all all' same fewer puts fills wait h = record {
  one_place = λ key. omega (arith, h.one_place key, fewer (λ i. cond (is_at key i) 1 0) (λ y. refl), puts key, fills key);
  one_number = λ n. omega (arith, h.one_number n, fewer (λ i. cond (item_has n i) 1 0) (λ y. refl), ap (λ cs. count (open_has n) cs) same.charges);
  fresh = λ n lt. omega (arith, h.fresh n (omega (arith, lt, same.made)), fewer (λ i. cond (item_has n i) 1 0) (λ y. refl), ap (λ cs. count (open_has n) cs) same.charges);
  wishes = all_wishes memory memory' all' (stay_same memory.charges memory'.charges same.charges) (wait.wishes memory h.wishes);
  one_add = λ n. omega (arith, h.one_add n, wait.adds n);
}

pub same_items : (items : List Item) → FewerItems items items
same_items items f same = omega arith

pub same_puts : (queue : List FlashEntry) → FewerPuts queue queue
same_puts queue key = omega arith

pub same_fills : (fills : List Fill) → FewerFills fills fills
same_fills fills key = omega arith

-- ---- a charge is freed

-- the number is asked for from either side
turned : (n : ℕ) (charges : List Open) → count (has_number n) charges ≡ count (open_has n) charges
turned n [] = refl
turned n (c ∷ charges) = omega (arith, turned n charges, ap {B = ℕ} (λ b. cond b 1 0) (swap (n == c.number) (c.number == n) refl refl))
  where
    swap : (a b : Bool) → (n == c.number) ≡ a → (c.number == n) ≡ b → a ≡ b
    swap true true e f = refl
    swap false false e f = refl
    swap true false e f = sym (sym f ∙ eq-eqb c.number n (sym (eqb-true n c.number e)))
    swap false true e f = sym e ∙ eq-eqb n c.number (sym (eqb-true c.number n f))

pub one_open : (memory : Memory) (items : List Item) (queue : List FlashEntry) (seen all : List Fill) → Held memory items queue seen all → (n : ℕ) → count (has_number n) memory.charges ≤ 1
one_open memory items queue seen all h n = omega (arith, turned n memory.charges, h.one_number n)

-- the next number is none's
pub next_open : (memory : Memory) (items : List Item) (queue : List FlashEntry) (seen all : List Fill) → Held memory items queue seen all → count (has_number (memory.made + 1)) memory.charges ≡ 0
next_open memory items queue seen all h = omega (arith, turned (memory.made + 1) memory.charges, h.fresh (memory.made + 1) (omega arith))

pub held_freed : (memory : Memory) (items : List Item) (queue : List FlashEntry) (seen all : List Fill) (n : ℕ) → count (adds n) (waiters_of all) ≡ 0 → Held memory items queue seen all → Held (after_free memory n) items queue seen all
held_freed memory items queue seen all n none h = record {
  one_place = h.one_place;
  one_number = λ m. omega (arith, h.one_number m, closed-less (λ o. cond (open_has m o) 1 0) n memory.charges);
  fresh = λ m lt. omega (arith, h.fresh m lt, closed-less (λ o. cond (open_has m o) 1 0) n memory.charges);
  wishes = fills_stay n memory all (one_open memory items queue seen all h) none h.wishes;
  one_add = h.one_add;
}

-- ---- a charge is opened

one_step : (n made a b : ℕ) (t : Bool) → (made + 1 == n) ≡ t → (made < n → a + b ≡ 0) → a + b ≤ 1 → a + (b + cond t 1 0) ≤ 1
one_step n made a b true e fresh one = omega (arith, fresh (omega (arith, eqb-true (made + 1) n e)))
one_step n made a b false e fresh one = omega (arith, one)

fresh_step : (n made a b : ℕ) (t : Bool) → (made + 1 == n) ≡ t → made + 1 < n → a + b ≡ 0 → a + (b + cond t 1 0) ≡ 0
fresh_step n made a b true e lt none = absurd (omega (arith, eqb-true (made + 1) n e, lt))
fresh_step n made a b false e lt none = omega (arith, none)

abbrev opened : Memory → ℕ → List ℕ → ℕ → Open
opened memory pool key size = record { number = memory.made + 1; pool = pool; key = key; size = size }

pub held_charged : (memory : Memory) (items : List Item) (queue : List FlashEntry) (seen all : List Fill) (pool : ℕ) (key : List ℕ) (size : ℕ) → Held memory items queue seen all → Held (with_charge memory pool key size) items queue seen all
held_charged memory items queue seen all pool key size h =
    let c = opened memory pool key size in
    let more : (n : ℕ) → count (open_has n) (memory.charges ++ c ∷ []) ≡ count (open_has n) memory.charges + cond (memory.made + 1 == n) 1 0 = λ n. tally-push (λ o. cond (open_has n o) 1 0) memory.charges c in
    record {
      one_place = h.one_place;
      one_number = λ n. omega (arith, more n, one_step n memory.made (count (item_has n) items) (count (open_has n) memory.charges) (memory.made + 1 == n) refl (h.fresh n) (h.one_number n));
      fresh = λ n lt. omega (arith, more n, fresh_step n memory.made (count (item_has n) items) (count (open_has n) memory.charges) (memory.made + 1 == n) refl lt (h.fresh n (omega (arith, lt))));
      wishes = all_wishes memory (with_charge memory pool key size) all (open_more memory.charges c) h.wishes;
      one_add = h.one_add;
    }

-- ---- an open charge is linked

one_more : (b : Bool) (a c : ℕ) → (b ≡ true → a + c ≡ 0) → a + c ≤ 1 → (a + cond b 1 0) + c ≤ 1
one_more true a c none one = omega (arith, none refl)
one_more false a c none one = omega (arith, one)

-- where its key stands nowhere
pub held_linked : (memory : Memory) (items : List Item) (queue : List FlashEntry) (seen all : List Fill) (handle : Handle) (clean : Bool) → is_open (charge_by handle) memory.charges ≡ true → count (adds handle.number) (waiters_of all) ≡ 0
    → count (is_at handle.key) items + (count (is_put_of handle.key) queue + count (is_fill_of handle.key) seen) ≡ 0 → Held memory items queue seen all → Held (after_free memory handle.number) (items ++ item_by clean handle ∷ []) queue seen all
held_linked memory items queue seen all handle clean is_there none nowhere h =
    let item = item_by clean handle in
    let freed = held_freed memory items queue seen all handle.number none h in
    let sum : (f : Open → ℕ) → tally f (closed handle.number memory.charges) + f (charge_by handle) ≡ tally f memory.charges = λ f. tally-closed f handle.number memory.charges (charge_by handle) (is_open-found (charge_by handle) memory.charges is_there) in
    let gone : (key : List ℕ) → is_at key item ≡ true → count (is_at key) items + (count (is_put_of key) queue + count (is_fill_of key) seen) ≡ 0 = λ key at. subst (λ (k : List ℕ). count (is_at k) items + (count (is_put_of k) queue + count (is_fill_of k) seen) ≡ 0) (sym (same_bytes key handle.key at)) nowhere in
    record {
      one_place = λ key. omega (arith, tally-push (λ i. cond (is_at key i) 1 0) items item, one_more (is_at key item) (count (is_at key) items) (count (is_put_of key) queue + count (is_fill_of key) seen) (gone key) (h.one_place key));
      one_number = λ n. omega (arith, tally-push (λ i. cond (item_has n i) 1 0) items item, sum (λ o. cond (open_has n o) 1 0), h.one_number n);
      fresh = λ n lt. omega (arith, tally-push (λ i. cond (item_has n i) 1 0) items item, sum (λ o. cond (open_has n o) 1 0), h.fresh n lt);
      wishes = freed.wishes;
      one_add = h.one_add;
    }

-- ---- an item leaves

pub held_gone : (memory : Memory) (x : Item) (items : List Item) (queue : List FlashEntry) (seen all : List Fill) → Held memory (x ∷ items) queue seen all → Held memory items queue seen all
held_gone memory x items queue seen all h = held_less memory memory (x ∷ items) items queue queue seen seen all all (record { charges = refl; made = refl }) (λ f same. omega arith) (same_puts queue) (same_fills seen) (same_wait all) h

-- and waits
pub held_waits : (memory : Memory) (x : Item) (items : List Item) (queue : List FlashEntry) (seen all : List Fill) → Held memory (x ∷ items) queue seen all → Held memory items (queue ++ entry_of_item x ∷ []) seen all
held_waits memory x items queue seen all h =
    let less = held_gone memory x items queue seen all h in
    record {
      one_place = λ key. omega (arith, h.one_place key, tally-push (λ put. cond (is_put_of key put) 1 0) queue (entry_of_item x), ap {B = ℕ} (λ b. cond b 1 0) (bytes_eq-sym key x.key));
      one_number = less.one_number;
      fresh = less.fresh;
      wishes = less.wishes;
      one_add = less.one_add;
    }
