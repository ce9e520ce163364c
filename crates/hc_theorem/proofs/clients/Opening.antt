-- An open follows: it is refused by the books, or its charge fills the slot.
use Rattle.std.proofs.Common.{◌≡◌, ℕ, ◌+◌, ◌≤◌, ◌==◌, Bool, true, false, List, [], ◌∷◌, ◌++◌, length, Option, Some, None, refl, ap, sym, ◌∙◌, subst, arith, cond}
use Rattle.std.specs.Prelude.{map}
use Rattle.std.proofs.lemmas.Bool.{eqb-true}
use Rattle.hc_types.specs.Charge.{charge_of}
use Rattle.hc_types.specs.Config.{Config}
use Rattle.hc_types.specs.Tally.{count}
use Rattle.hc_types.specs.declared.refusal.Refusal.{Refusal}
use Rattle.hc_memory.specs.Item.{Open, Handle, charge_by}
use Rattle.hc_machine.specs.items.Allocating.{refusal_of, expiry_of}
use Rattle.hc_history.specs.Note as note
use Rattle.hc_history.specs.Note.{Note}
use Rattle.hc_history.specs.Books.{charges, now_at}
use Rattle.hc_history.specs.Lawful.{past}
use Rattle.hc_history.proofs.Appended.{past-append}
use Rattle.hc_machine.specs.Nvm.{Fill}
use Rattle.hc_machine.specs.Cache.{Cache, Refused, stays}
use Rattle.hc_machine.specs.World.{Says}
use Rattle.hc_machine.specs.Evicting.{make_room, handle_for, allocate_by}
use Rattle.hc_machine.specs.Schedule.{Slot, Scene, Deed, Open as OpenSlot, Tells, NoSlot, Filled, is_slot, slot_at, with_slot, fills, opens}
use Rattle.hc_invariant.specs.Good.{Agrees, fills_of}
use Rattle.hc_proof.proofs.frames.ByNumber.{none-counted}
use Rattle.hc_laws.proofs.walk.Parts.{as_aside, as_served, make_charge_leaves}
use Rattle.hc_theorem.proofs.idle.StillParts.{calm, mute, still_jobs}
use Rattle.hc_follows.specs.Desk.{Desk, Kept, with_kept}
use Rattle.hc_follows.specs.Telling.{IsCharged}
use Rattle.hc_follows.specs.Clients.{OpenPart, newest, expires_at}
use Rattle.hc_theorem.specs.clients.Matches.{kept_of, AddsMatch, Matches}
use Rattle.hc_theorem.specs.slots.Opens.{Opens, adds_in}
use Rattle.hc_theorem.specs.clients.Deeds.{Followed, DeedFollows}
use Rattle.hc_proof.proofs.shapes.Asides.{room_aside}
use Rattle.hc_theorem.proofs.slots.Opens.{slot_comes, with_counts}
use Rattle.hc_theorem.proofs.clients.Telling.{mute_calls}
use Rattle.hc_theorem.proofs.clients.Stepping.{good_at, opens_at, slots_by, kept-with, called_matches}
use Rattle.hc_theorem.proofs.clients.Putting.{kept_is, nothing_matches}
use Rattle.hc_theorem.proofs.clients.Refusing.{refusal_same}

-- ---- what is told: the last note is the charge

charged_last : (key : List ℕ) (pool bytes number : ℕ) (first : List Note) → IsCharged key pool bytes (past [] (first ++ note.Charged number key pool bytes ∷ []))
charged_last key pool bytes number first = subst (IsCharged key pool bytes) (sym (past-append [] first (note.Charged number key pool bytes ∷ []))) (refl, refl, refl)

newest_last : (older : List Note) (key : List ℕ) (pool bytes number : ℕ) (first : List Note) → newest (charges (past older (first ++ note.Charged number key pool bytes ∷ []))) ≡ number
newest_last older key pool bytes number first = ap (λ (l : List Note). newest (charges l)) (past-append older first (note.Charged number key pool bytes ∷ []))

-- ---- one slot more

one_more : (slot : Slot) (slots : List Slot) → slot_at slot.number slots ≡ None → ((n : ℕ) → count (is_slot n) slots ≤ 1) → (n : ℕ) → count (is_slot n) (with_slot slot slots) ≤ 1
one_more slot slots none one n = go (slot.number == n) refl
  where
    go : (t : Bool) → (slot.number == n) ≡ t → count (is_slot n) (with_slot slot slots) ≤ 1
    go true e =
        let zero : count (is_slot n) slots ≡ 0 = subst (λ (k : ℕ). count (is_slot k) slots ≡ 0) (eqb-true slot.number n e) (none-counted (is_slot slot.number) slots none) in
        let own : ◌≡◌ {A = ℕ} (cond (slot.number == n) 1 0) 1 = ap {B = ℕ} (λ b. cond b 1 0) e in
        omega (arith, with_counts slot slots (λ (s : Slot). cond (is_slot n s) 1 0), zero, own)
    go false e =
        let own : ◌≡◌ {A = ℕ} (cond (slot.number == n) 1 0) 0 = ap {B = ℕ} (λ b. cond b 1 0) e in
        omega (arith, with_counts slot slots (λ (s : Slot). cond (is_slot n s) 1 0), one n, own)

-- ---- the ways of an open

module _ (config : Config) (log : List Note) (scene : Scene) (desk : Desk) (m : Matches log desk scene) (g : Agrees config desk.older scene.world.cache) (client number pool : ℕ) (key value : List ℕ) (ttl : ℕ) where
  abbrev cache : Cache
  cache = scene.world.cache

  abbrev deed : Deed
  deed = OpenSlot number pool key value ttl

  abbrev handle : Handle
  handle = handle_for cache pool key value (expiry_of cache.now ttl)

  abbrev its : Slot
  its = record { number = number; handle = handle }

  filled : slot_at number scene.slots ≡ None → refusal_of cache.memory pool key (length value) ≡ None
      → Followed config log desk client deed (fills number (allocate_by None pool key value ttl cache).answer scene (allocate_by None pool key value ttl cache))
  filled at e =
      let room = make_room pool (charge_of key (length value)) cache in
      let r = room_aside pool (charge_of key (length value)) cache in
      let moved = allocate_by None pool key value ttl cache in
      let made = room.cache.memory.made + 1 in
      let bytes = charge_of key (length value) in
      let same_made : made ≡ cache.memory.made + 1 = ap (λ n. n + 1) r.made in
      let charge : ℕ → Open = λ n. record { number = n; pool = pool; key = key; size = length value } in
      let charges_are : moved.cache.memory.charges ≡ cache.memory.charges ++ charge_by handle ∷ [] = λ i. r.charges i ++ charge (same_made i) ∷ [] in
      let opens = slot_comes scene.slots its (adds_in (fills_of cache.nvm)) cache.memory.charges (omega (arith, g.memory.charges.fresh (cache.memory.made + 1) (omega arith))) (opens_at config desk.older cache desk.slots scene.slots g m.slots) in
      let told = newest_last desk.older key pool bytes made room.part ∙ same_made in
      let expires = ap (λ n. expires_at n ttl) g.clock in
      let kept : ℕ → ℕ → Kept = λ n x. record { slot = number; charge = n; key = key; value = value; expiry = x } in
      let kept_same : with_kept (kept (newest (charges (past desk.older moved.part))) (expires_at (now_at desk.older) ttl)) desk.slots ≡ map kept_of (with_slot its scene.slots) =
      (λ i. with_kept (kept (told i) (expires i)) (m.slots.same i)) ∙ kept-with its scene.slots in
      record {
        part = subst (λ (k : Option Kept). OpenPart config desk.older k pool key value Filled moved.part) (sym (kept_is log desk scene number None m at))
            (refusal_same config desk.older cache.memory pool key (length value) g.memory ∙ e, charged_last key pool bytes made room.part, mute_calls moved.part (make_charge_leaves (as_aside mute) pool key (length value) cache).none);
        matches = called_matches log desk scene (with_slot its scene.slots) moved (with_kept (kept (newest (charges (past desk.older moved.part))) (expires_at (now_at desk.older) ttl)) desk.slots) desk.adds m (still_jobs cache.nvm moved.cache.nvm (make_charge_leaves (as_aside (as_served calm)) pool key (length value) cache).flash)
            (slots_by (with_kept (kept (newest (charges (past desk.older moved.part))) (expires_at (now_at desk.older) ttl)) desk.slots) (with_slot its scene.slots) moved.cache.memory.charges (fills_of moved.cache.nvm) kept_same (one_more its scene.slots at m.slots.one_slot)
            (subst (λ (all : List Fill). Opens (with_slot its scene.slots) (adds_in all) moved.cache.memory.charges) (sym r.fills) (subst (Opens (with_slot its scene.slots) (adds_in (fills_of cache.nvm))) (sym charges_are) opens)))
            (subst (λ (calls : ℕ). AddsMatch desk.adds calls (fills_of moved.cache.nvm)) (sym r.calls) (subst (AddsMatch desk.adds cache.calls) (sym r.fills) m.adds));
      }

  open_by : slot_at number scene.slots ≡ None → (r : Option Refusal) → refusal_of cache.memory pool key (length value) ≡ r
      → Followed config log desk client deed (fills number (allocate_by r pool key value ttl cache).answer scene (allocate_by r pool key value ttl cache))
  open_by at None e = filled at e
  open_by at (Some refusal) e = record {
    part = subst (λ (k : Option Kept). OpenPart config desk.older k pool key value (Tells (Says (Refused refusal))) []) (sym (kept_is log desk scene number None m at)) (refusal_same config desk.older cache.memory pool key (length value) g.memory ∙ e, refl);
    matches = called_matches log desk scene scene.slots (stays (Refused refusal) cache) desk.slots desk.adds m refl m.slots m.adds;
  }

  pub open_at : (o : Option Slot) → slot_at number scene.slots ≡ o → Followed config log desk client deed (opens o number pool key value ttl scene)
  open_at None at = open_by at (refusal_of cache.memory pool key (length value)) refl
  open_at (Some slot) at = record {
    part = subst (λ (k : Option Kept). OpenPart config desk.older k pool key value NoSlot []) (sym (kept_is log desk scene number (Some slot) m at)) refl;
    matches = nothing_matches log desk scene desk.slots m refl;
  }

pub open_follows : (slot pool : ℕ) (key value : List ℕ) (ttl : ℕ) → DeedFollows (OpenSlot slot pool key value ttl)
open_follows slot pool key value ttl config log scene desk client before after m = open_at config log scene desk m (good_at config log desk scene before m).agrees client slot pool key value ttl (slot_at slot scene.slots) refl
