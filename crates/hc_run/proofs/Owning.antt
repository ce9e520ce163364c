-- What fills a slot is the cache's own, until it is given up.
use Rattle.std.proofs.Common.{◌≡◌, ℕ, ◌+◌, ◌≤◌, ◌==◌, Bool, true, false, not, ◌&&◌, List, [], ◌∷◌, Some, refl, ap, subst, arith, cond}
use Rattle.std.specs.Prelude.{if◌then◌else◌}
use Rattle.std.proofs.lemmas.Option.{same_Some}
use Rattle.hc_types.specs.Tally.{count}
use Rattle.hc_types.specs.declared.refusal.Refusal.TheVariants.{ForeignHandle}
use Rattle.hc_machine.specs.Cache.{Cache, Refused, Discarded, answers, stays}
use Rattle.hc_machine.specs.Waiting.{free}
use Rattle.hc_machine.specs.Calls as calls
use Rattle.hc_machine.specs.Calls.{is_known}
use Rattle.hc_machine.specs.Schedule.{Slot, is_slot, slot_at}
use Rattle.hc_invariant.specs.Good.{fills_of}
use Rattle.hc_proof.proofs.frames.ByNumber.{same_number}
use Rattle.hc_theorem.specs.slots.Opens.{holds, adds_in}
use Rattle.hc_theorem.proofs.slots.Opens.{other_goes}
use Rattle.hc_theorem.proofs.slots.Calls.{open_in, not_kept}
use Rattle.hc_run.specs.Shows.{AreOwn}

own_number : (n : ℕ) → ◌≡◌ {A = ℕ} (cond (n == n) 1 0) 1
own_number n = ap {B = ℕ} (λ b. cond b 1 0) (same_number n)

-- a slot that is found counts
found_counts : (number : ℕ) (slots : List Slot) (slot : Slot) → slot_at number slots ≡ Some slot → 1 ≤ count (holds slot.handle.number) slots
found_counts number [] slot at = absurd cc
found_counts number (x ∷ slots) slot at = go (is_slot number x) at (found_counts number slots slot)
  where
    go : (t : Bool) → (if t then Some x else slot_at number slots) ≡ Some slot → (slot_at number slots ≡ Some slot → 1 ≤ count (holds slot.handle.number) slots) → 1 ≤ count (holds slot.handle.number) (x ∷ slots)
    go true e rest = subst (λ (s : Slot). 1 ≤ count (holds s.handle.number) (x ∷ slots)) (same_Some x slot e) (omega (arith, own_number x.handle.number))
    go false e rest = omega (arith, rest e)

-- what fills a slot is known
pub slot-known : (cache : Cache) (slots : List Slot) (number : ℕ) (slot : Slot) → AreOwn slots cache → slot_at number slots ≡ Some slot → is_known cache slot.handle ≡ true
slot-known cache slots number slot own at =
    let n = slot.handle.number in
    let there = found_counts number slots slot at in
    let opened = open_in number cache.memory.charges slots slot at own.known in
    let unkept = not_kept n cache.nvm (omega (arith, own.held n, own.unique n, there)) in
    λ i. opened i && not (unkept i)

-- so is what fills the first
pub first-known : (slot : Slot) (slots : List Slot) (cache : Cache) → AreOwn (slot ∷ slots) cache → is_known cache slot.handle ≡ true
first-known slot slots cache own =
    let n = slot.handle.number in
    let opened = own.known.0 in
    let unkept = not_kept n cache.nvm (omega (arith, own.held n, own.unique n, own_number n)) in
    λ i. opened i && not (unkept i)

freed_own : (slot : Slot) (slots : List Slot) (cache : Cache) → AreOwn (slot ∷ slots) cache → AreOwn slots (free slot.handle.number cache).cache
freed_own slot slots cache own =
    let n = slot.handle.number in
    let more = adds_in (fills_of cache.nvm) in
    other_goes slots n (λ k. cond (n == k) 1 0 + more k) more cache.memory.charges (λ k. refl) (record { held = λ k. omega (arith, own.held k); unique = own.unique; known = own.known.1 })

-- and once it is given up, what fills the others
pub others-own : (slot : Slot) (slots : List Slot) (cache : Cache) → AreOwn (slot ∷ slots) cache → AreOwn slots (calls.discard slot.handle cache).cache
others-own slot slots cache own = go (is_known cache slot.handle) (first-known slot slots cache own)
  where
    go : (t : Bool) → t ≡ true → AreOwn slots (if t then answers Discarded (free slot.handle.number cache) else stays (Refused ForeignHandle) cache).cache
    go true e = freed_own slot slots cache own
    go false e = absurd cc
