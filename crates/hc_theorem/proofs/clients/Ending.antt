-- What is told at the end: what still fills a slot is freed, in order.
use Rattle.std.proofs.Common.{◌≡◌, ℕ, ◌+◌, ◌==◌, Bool, true, false, not, ◌&&◌, List, [], ◌∷◌, refl, ap, arith, cond}
use Rattle.std.specs.Prelude.{if◌then◌else◌, map}
use Rattle.hc_types.specs.declared.refusal.Refusal.TheVariants.{ForeignHandle}
use Rattle.hc_history.specs.Note.{Freed}
use Rattle.hc_machine.specs.Cache.{Cache, Moved, Refused, Discarded, answers, stays}
use Rattle.hc_machine.specs.Waiting.{free}
use Rattle.hc_machine.specs.Calls.{is_known}
use Rattle.hc_machine.specs.Schedule.{Slot, ended_behind, given_up}
use Rattle.hc_invariant.specs.Good.{fills_of}
use Rattle.hc_proof.proofs.frames.ByNumber.{same_number}
use Rattle.hc_follows.specs.Follows.{slots_freed}
use Rattle.hc_theorem.specs.clients.Matches.{kept_of}
use Rattle.hc_theorem.specs.slots.Opens.{Opens, adds_in}
use Rattle.hc_theorem.proofs.slots.Opens.{other_goes}
use Rattle.hc_theorem.proofs.clients.Changing.{not_kept}

abbrev discard_if : Bool → Slot → Cache → Moved
discard_if t slot cache = if t then answers Discarded (free slot.handle.number cache) else stays (Refused ForeignHandle) cache

-- the first slot's charge goes
first_goes : (slot : Slot) (slots : List Slot) (cache : Cache) → Opens (slot ∷ slots) (adds_in (fills_of cache.nvm)) cache.memory.charges → Opens slots (adds_in (fills_of cache.nvm)) (free slot.handle.number cache).cache.memory.charges
first_goes slot slots cache h =
    let n = slot.handle.number in
    let more = adds_in (fills_of cache.nvm) in
    other_goes slots n (λ k. cond (n == k) 1 0 + more k) more cache.memory.charges (λ k. refl) (record { held = λ k. omega (arith, h.held k); unique = h.unique; known = h.known.1 })

first_known : (slot : Slot) (slots : List Slot) (cache : Cache) → Opens (slot ∷ slots) (adds_in (fills_of cache.nvm)) cache.memory.charges → is_known cache slot.handle ≡ true
first_known slot slots cache h =
    let n = slot.handle.number in
    let own : ◌≡◌ {A = ℕ} (cond (n == n) 1 0) 1 = ap {B = ℕ} (λ b. cond b 1 0) (same_number n) in
    let opened = h.known.0 in
    let unkept = not_kept n cache.nvm (omega (arith, h.held n, h.unique n, own)) in
    λ i. opened i && not (unkept i)

pub freed_at_end : (slots : List Slot) (cache : Cache) → Opens slots (adds_in (fills_of cache.nvm)) cache.memory.charges → (given_up slots cache).part ≡ slots_freed (map kept_of slots)
freed_at_end [] cache h = refl
freed_at_end (slot ∷ slots) cache h = go (is_known cache slot.handle) refl (freed_at_end slots (free slot.handle.number cache).cache (first_goes slot slots cache h))
  where
    go : (t : Bool) → is_known cache slot.handle ≡ t → (given_up slots (free slot.handle.number cache).cache).part ≡ slots_freed (map kept_of slots) → (ended_behind (given_up slots) (discard_if t slot cache)).part ≡ Freed slot.handle.number ∷ slots_freed (map kept_of slots)
    go true e rest = ap (λ l. Freed slot.handle.number ∷ l) rest
    go false e rest = absurd (let known = first_known slot slots cache h in cc)
