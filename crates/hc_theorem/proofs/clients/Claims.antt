-- Where a desk matches, the open charges are those of its slots and of the adds that wait.
use Rattle.std.proofs.Common.{◌≡◌, ℕ, zero, suc, ◌+◌, ◌≤◌, ◌==◌, Bool, true, false, not, ◌&&◌, ◌||◌, List, [], ◌∷◌, Option, Some, None, refl, ap, sym, ◌∙◌, arith, cond}
use Rattle.std.specs.Prelude.{find, option_map, is_some}
use Rattle.std.specs.List.{list_any, list_all}
use Rattle.std.proofs.lemmas.Bool.{eqb-true}
use Rattle.std.proofs.lemmas.Option.{same_Some}
use Rattle.hc_types.specs.Tally.{count}
use Rattle.hc_types.proofs.Tallies.{tally-map, tally-mono}
use Rattle.hc_types.specs.Config.{Config}
use Rattle.hc_machine.specs.items.Items.{items_of, open_has}
use Rattle.hc_history.specs.Note.{Note, Op}
use Rattle.hc_history.specs.Books.{Charge, Call, open_call, open_calls}
use Rattle.hc_machine.specs.Nvm.{Waiter, Wish, ToFind, ToAdd, Fill, adds}
use Rattle.hc_machine.specs.Cache.{Cache}
use Rattle.hc_machine.specs.Schedule.{Slot}
use Rattle.hc_invariant.specs.Tells.{CallsTell, waiters_of, asked_in, is_call}
use Rattle.hc_invariant.specs.Good.{Agrees, fills_of}
use Rattle.hc_proof.proofs.frames.ByNumber.{same_number, found-passes}
use Rattle.hc_proof.proofs.frames.Lists.{any-counts, found-counts}
use Rattle.hc_proof.proofs.calls.CallBooks.{asked_in-none, unasked_in}
use Rattle.hc_follows.specs.Desk.{Desk, Kept, Adding, open_charges}
use Rattle.hc_follows.specs.Claims.{is_open, is_adding, Claimed}
use Rattle.hc_theorem.specs.clients.Matches.{kept_of, charge_kept, charge_of_wish, AllTold, SlotsMatch, AddsMatch}
use Rattle.hc_theorem.specs.slots.Opens.{holds}
use Rattle.hc_theorem.proofs.clients.Refusing.{open_same}

-- ---- lists

-- one is counted where some is
pub counted_any : {X : Type 0} (p : X → Bool) (xs : List X) → 1 ≤ count p xs → list_any p xs ≡ true
counted_any p xs h = go (list_any p xs) refl
  where
    go : (t : Bool) → list_any p xs ≡ t → list_any p xs ≡ true
    go true e = e
    go false e = absurd (let z = any-counts p xs e in omega (arith, z, h))

-- each passes, since one of the list counts at least itself
module _ {X : Type 0} (p : X → Bool) (all : List X) (own : (x : X) → ((test : X → Bool) → test x ≡ true → 1 ≤ count test all) → p x ≡ true) where
  all_by : (xs : List X) → ((test : X → Bool) → count test xs ≤ count test all) → list_all p xs ≡ true
  all_by [] less = refl
  all_by (x ∷ xs) less =
      let first : p x ≡ true = own x (λ test t. let one : ◌≡◌ {A = ℕ} (cond (test x) 1 0) 1 = ap {B = ℕ} (λ b. cond b 1 0) t in omega (arith, less test, one)) in
      let rest = all_by xs (λ test. omega (arith, less test)) in
      λ i. first i && rest i

pub all_of : {X : Type 0} (p : X → Bool) (xs : List X) → ((x : X) → ((test : X → Bool) → test x ≡ true → 1 ≤ count test xs) → p x ≡ true) → list_all p xs ≡ true
all_of p xs own = all_by p xs own xs (λ test. omega arith)

-- ---- the charges

open_counts : (config : Config) (older : List Note) (cache : Cache) (n : ℕ) → Agrees config older cache → count (λ (charge : Charge). charge.number == n) (open_charges older) ≡ count (open_has n) cache.memory.charges
open_counts config older cache n g = open_same older (items_of cache.memory.pools) cache.memory.charges cache.memory.made g.memory.charges (λ (c : Charge). cond (c.number == n) 1 0)

is_opened : (config : Config) (older : List Note) (cache : Cache) (n : ℕ) → Agrees config older cache → 1 ≤ count (open_has n) cache.memory.charges → is_open n older ≡ true
is_opened config older cache n g h = counted_any (λ (charge : Charge). charge.number == n) (open_charges older) (omega (arith, h, open_counts config older cache n g))

-- ---- the calls

-- a waiter with the call
record At (all : List Adding) (waiters : List Waiter) (test : Waiter → Bool) : Type 0 where
  waiter : Waiter
  passes : test waiter ≡ true
  told : charge_kept waiter.call all ≡ charge_of_wish waiter.wish
  counts : (other : Waiter → Bool) → other waiter ≡ true → 1 ≤ count other waiters

waiter_at : (all : List Adding) (waiters : List Waiter) (test : Waiter → Bool) → AllTold all waiters → 1 ≤ count test waiters → At all waiters test
waiter_at all [] test h one = absurd (omega (arith, one))
waiter_at all (w ∷ ws) test h one = go (test w) refl one (waiter_at all ws test h.1)
  where
    go : (t : Bool) → test w ≡ t → 1 ≤ cond t 1 0 + count test ws → (1 ≤ count test ws → At all ws test) → At all (w ∷ ws) test
    go true e one rest = record { waiter = w; passes = e; told = h.0; counts = λ other o. let k : ◌≡◌ {A = ℕ} (cond (other w) 1 0) 1 = ap {B = ℕ} (λ b. cond b 1 0) o in omega (arith, k) }
    go false e one rest = let r = rest (omega (arith, one)) in record { waiter = r.waiter; passes = r.passes; told = r.told; counts = λ other o. omega (arith, r.counts other o) }

some_both : {A B : Type 0} (o : Option A) (f : A → B) (p : Option B) → option_map f o ≡ p → is_some o ≡ is_some p
some_both None f None e = refl
some_both None f (Some y) e = absurd cc
some_both (Some x) f None e = absurd cc
some_both (Some x) f (Some y) e = refl

-- a call is open exactly where it waits
open_waits : (older : List Note) (cache : Cache) (n : ℕ) → CallsTell older cache.calls cache.owed (fills_of cache.nvm) → is_some (open_call n (open_calls older)) ≡ is_some (asked_in n (fills_of cache.nvm))
open_waits older cache n t = some_both (open_call n (open_calls older)) (λ (c : Call). c.op) (asked_in n (fills_of cache.nvm)) (t.open_ones n)

pub asked_counts : (n : ℕ) (fills : List Fill) → is_some (asked_in n fills) ≡ true → 1 ≤ count (is_call n) (waiters_of fills)
asked_counts n fills h = go (count (is_call n) (waiters_of fills)) refl
  where
    go : (k : ℕ) → count (is_call n) (waiters_of fills) ≡ k → 1 ≤ count (is_call n) (waiters_of fills)
    go zero e = absurd (let none = asked_in-none n fills e in let bad : false ≡ true = sym (ap is_some none) ∙ h in cc)
    go (suc k) e = omega (arith, e)

counts_asked : (n : ℕ) (fills : List Fill) → 1 ≤ count (is_call n) (waiters_of fills) → is_some (asked_in n fills) ≡ true
counts_asked n fills h = go (asked_in n fills) refl
  where
    go : (o : Option Op) → asked_in n fills ≡ o → is_some (asked_in n fills) ≡ true
    go None e = absurd (let z = unasked_in n fills e in omega (arith, z, h))
    go (Some op) e = ap is_some e

-- ---- the desk's adds

both_fewer : (call charge : ℕ) (xs : List Adding) → count (λ (a : Adding). (a.call == call) && (a.charge == charge)) xs ≤ count (λ (a : Adding). a.call == call) xs
both_fewer call charge xs = tally-mono (λ (a : Adding). cond ((a.call == call) && (a.charge == charge)) 1 0) (λ (a : Adding). cond (a.call == call) 1 0) (λ a. less (a.call == call) (a.charge == charge)) xs
  where
    less : (b c : Bool) → ◌≤◌ (cond (b && c) 1 0) (cond b 1 0)
    less true true = omega arith
    less true false = omega arith
    less false c = omega arith

-- of adds with one call each, the desk finds each by its call
found_both : (call charge : ℕ) (xs : List Adding) → count (λ (a : Adding). a.call == call) xs ≤ 1 → 1 ≤ count (λ (a : Adding). (a.call == call) && (a.charge == charge)) xs → charge_kept call xs ≡ Some charge
found_both call charge [] one h = absurd (omega (arith, h))
found_both call charge (y ∷ ys) one h = go (y.call == call) (y.charge == charge) refl one h (found_both call charge ys)
  where
    go : (t s : Bool) → (y.charge == charge) ≡ s → cond t 1 0 + count (λ (a : Adding). a.call == call) ys ≤ 1 → 1 ≤ cond (t && s) 1 0 + count (λ (a : Adding). (a.call == call) && (a.charge == charge)) ys
        → (count (λ (a : Adding). a.call == call) ys ≤ 1 → 1 ≤ count (λ (a : Adding). (a.call == call) && (a.charge == charge)) ys → charge_kept call ys ≡ Some charge)
        → option_map (λ (a : Adding). a.charge) (cond t (Some y) (find (λ (a : Adding). a.call == call) ys)) ≡ Some charge
    go true true e one h rest = ap (λ n. Some n) (eqb-true y.charge charge e)
    go true false e one h rest = absurd (omega (arith, one, h, both_fewer call charge ys))
    go false s e one h rest = rest (omega (arith, one)) (omega (arith, h))

wish_adds : (n call : ℕ) (wish : Wish) → charge_of_wish wish ≡ Some n → adds n (record { call = call; wish = wish }) ≡ true
wish_adds n call ToFind e = absurd cc
wish_adds n call (ToAdd handle) e = ap (λ k. k == n) (same_Some handle.number n e) ∙ same_number n

adds_wish : (n call : ℕ) (wish : Wish) → adds n (record { call = call; wish = wish }) ≡ true → charge_of_wish wish ≡ Some n
adds_wish n call ToFind e = absurd cc
adds_wish n call (ToAdd handle) e = ap (λ k. Some k) (eqb-true handle.number n e)

-- ---- all of it

or_true : (a b : Bool) → b ≡ true → (a || b) ≡ true
or_true true b e = refl
or_true false b e = e

module _ (config : Config) (desk : Desk) (cache : Cache) (slots : List Slot) (g : Agrees config desk.older cache) (s : SlotsMatch desk.slots slots cache.memory.charges (fills_of cache.nvm)) (a : AddsMatch desk.adds cache.calls (fills_of cache.nvm)) where
  kept_counts : (n : ℕ) → count (λ (kept : Kept). kept.charge == n) desk.slots ≡ count (holds n) slots
  kept_counts n = ap (λ (all : List Kept). count (λ (kept : Kept). kept.charge == n) all) s.same ∙ tally-map (λ (kept : Kept). cond (kept.charge == n) 1 0) kept_of slots

  slot_claims : (kept : Kept) → ((test : Kept → Bool) → test kept ≡ true → 1 ≤ count test desk.slots) → is_open kept.charge desk.older ≡ true
  slot_claims kept own =
      let n = kept.charge in
      is_opened config desk.older cache n g (omega (arith, s.held n, kept_counts n, own (λ k. k.charge == n) (same_number n)))

  add_claims : (adding : Adding) → ((test : Adding → Bool) → test adding ≡ true → 1 ≤ count test desk.adds) → (not (is_adding desk.older adding) || is_open adding.charge desk.older) ≡ true
  add_claims adding own = go (is_adding desk.older adding) refl
    where
      go : (t : Bool) → is_adding desk.older adding ≡ t → (not t || is_open adding.charge desk.older) ≡ true
      go false e = refl
      go true e =
          let n = adding.call in
          let asked : is_some (asked_in n (fills_of cache.nvm)) ≡ true = sym (open_waits desk.older cache n g.calls) ∙ e in
          let w = waiter_at desk.adds (waiters_of (fills_of cache.nvm)) (is_call n) a.told (asked_counts n (fills_of cache.nvm) asked) in
          let same = eqb-true w.waiter.call n w.passes in
          let kept = found_both n adding.charge desk.adds (a.one_add n) (own (λ x. (x.call == n) && (x.charge == adding.charge)) (λ i. same_number n i && same_number adding.charge i)) in
          let wish : charge_of_wish w.waiter.wish ≡ Some adding.charge = sym w.told ∙ ap (λ k. charge_kept k desk.adds) same ∙ kept in
          is_opened config desk.older cache adding.charge g (omega (arith, s.held adding.charge, w.counts (adds adding.charge) (wish_adds adding.charge w.waiter.call w.waiter.wish wish)))

  claimed_by : (charge : Charge) → ((test : Charge → Bool) → test charge ≡ true → 1 ≤ count test (open_charges desk.older))
      → (list_any (λ (kept : Kept). kept.charge == charge.number) desk.slots || list_any (λ adding. is_adding desk.older adding && (adding.charge == charge.number)) desk.adds) ≡ true
  claimed_by charge own =
      let n = charge.number in
      let one = own (λ c. c.number == n) (same_number n) in
      go (list_any (λ (kept : Kept). kept.charge == n) desk.slots) refl one
    where
      kept_one : (x : Option Adding) (call : ℕ) → find (λ (adding : Adding). adding.call == call) desk.adds ≡ x → option_map (λ (adding : Adding). adding.charge) x ≡ Some charge.number → is_some (open_call call (open_calls desk.older)) ≡ true
          → list_any (λ adding. is_adding desk.older adding && (adding.charge == charge.number)) desk.adds ≡ true
      kept_one None call e k waits = absurd cc
      kept_one (Some x) call e k waits =
          let its = eqb-true x.call call (found-passes (λ (adding : Adding). adding.call == call) desk.adds x e) in
          let adding : is_adding desk.older x ≡ true = ap (λ c. is_some (open_call c (open_calls desk.older))) its ∙ waits in
          let number : (x.charge == charge.number) ≡ true = ap (λ c. c == charge.number) (same_Some x.charge charge.number k) ∙ same_number charge.number in
          counted_any (λ adding. is_adding desk.older adding && (adding.charge == charge.number)) desk.adds
          (found-counts (λ (adding : Adding). adding.call == call) (λ adding. is_adding desk.older adding && (adding.charge == charge.number)) desk.adds x e (λ i. adding i && number i))

      go : (t : Bool) → list_any (λ (kept : Kept). kept.charge == charge.number) desk.slots ≡ t → 1 ≤ count (λ (c : Charge). c.number == charge.number) (open_charges desk.older)
          → (t || list_any (λ adding. is_adding desk.older adding && (adding.charge == charge.number)) desk.adds) ≡ true
      go true e one = refl
      go false e one =
          let n = charge.number in
          let none = any-counts (λ (kept : Kept). kept.charge == n) desk.slots e in
          let w = waiter_at desk.adds (waiters_of (fills_of cache.nvm)) (adds n) a.told (omega (arith, one, open_counts config desk.older cache n g, s.held n, kept_counts n, none)) in
          let call = w.waiter.call in
          let asked = counts_asked call (fills_of cache.nvm) (w.counts (is_call call) (same_number call)) in
          kept_one (find (λ (adding : Adding). adding.call == call) desk.adds) call refl (w.told ∙ adds_wish n call w.waiter.wish w.passes) (open_waits desk.older cache call g.calls ∙ asked)

  pub claimed : Claimed desk
  claimed = record { by_slots = all_of (λ (kept : Kept). is_open kept.charge desk.older) desk.slots slot_claims; by_adds = all_of (λ adding. not (is_adding desk.older adding) || is_open adding.charge desk.older) desk.adds add_claims; no_other = all_of (λ (charge : Charge). list_any (λ (kept : Kept). kept.charge == charge.number) desk.slots || list_any (λ adding. is_adding desk.older adding && (adding.charge == charge.number)) desk.adds) (open_charges desk.older) claimed_by }
