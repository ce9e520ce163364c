-- An insert, an add that doesn't wait, a remove: what is told of the call, and what is left.
use Rattle.std.proofs.Common.{◌≡◌, ℕ, ◌+◌, ◌≤◌, ◌==◌, true, false, not, ◌&&◌, List, [], ◌∷◌, ◌++◌, Option, Some, None, refl, ap, sym, ◌∙◌, subst, arith, cond}
use Rattle.std.specs.Prelude.{map}
use Rattle.hc_types.specs.Tally.{count}
use Rattle.hc_types.specs.Config.{Config}
use Rattle.hc_types.specs.declared.config.FlashConfig.{FlashConfig}
use Rattle.hc_types.specs.FlashEntry.{FlashEntry}
use Rattle.hc_memory.specs.Item.{Handle}
use Rattle.hc_memory.specs.Memory.{Memory}
use Rattle.hc_history.specs.Note as note
use Rattle.hc_history.specs.Note.{Note, Op, Reply, Begin, Did, End}
use Rattle.hc_history.specs.Books.{begun}
use Rattle.hc_machine.specs.Nvm.{Nvm, Fill, is_fill_of, without_fill, adds}
use Rattle.hc_machine.specs.Cache.{Cache, Told, and_then}
use Rattle.hc_machine.specs.Waiting.{plant, entry_of_handle, end_fill}
use Rattle.hc_machine.specs.Calls.{begin, replies_then, store, is_known, is_kept_in}
use Rattle.hc_machine.specs.Schedule.{Slot, Scene, is_slot, slot_at, without_slot}
use Rattle.hc_invariant.specs.Tells.{waiters_of}
use Rattle.hc_invariant.specs.Good.{Agrees, FlashPart, fills_of}
use Rattle.hc_proof.proofs.frames.ByNumber.{same_number, count-fewer}
use Rattle.hc_proof.proofs.frames.Lists.{found-counts}
use Rattle.hc_proof.proofs.calls.Serving.{unkept_by}
use Rattle.hc_machine.specs.Quiet.{jobs_in}
use Rattle.hc_laws.proofs.walk.Calls.{store_leaves}
use Rattle.hc_theorem.proofs.idle.StillParts.{calm, still_jobs}
use Rattle.hc_follows.specs.Desk.{Desk, Kept, without_kept}
use Rattle.hc_follows.specs.Telling.{did_in, Answers}
use Rattle.hc_proof.specs.shapes.Asides.{Aside, Answering}
use Rattle.hc_theorem.specs.clients.Matches.{kept_of, AllTold, SlotsMatch, AddsMatch, Matches}
use Rattle.hc_theorem.specs.slots.Opens.{holds, Opens, adds_in}
use Rattle.hc_proof.proofs.shapes.Asides.{answering, plant_aside}
use Rattle.hc_theorem.proofs.slots.Opens.{slot_goes}
use Rattle.hc_theorem.proofs.clients.Telling.{quiet_before, did_behind}
use Rattle.hc_theorem.proofs.clients.Adds.{fewer_told}
use Rattle.hc_theorem.proofs.slots.Serving.{fill_ended}
use Rattle.hc_theorem.proofs.clients.Stepping.{opens_at, kept-less}
use Rattle.hc_theorem.proofs.slots.Calls.{open_in}

-- ---- what is told of a call that is answered at once

pub answers_by : (older : List Note) (client : ℕ) (op : Op) (reply : Reply) (call its : ℕ) (first last : List Note) → call ≡ begun older + 1 → its ≡ call → Aside first → Answering first → Answering last
    → Answers older client op reply (Begin call client op ∷ first ++ (Did its reply ∷ (last ++ End its ∷ [])))
answers_by older client op reply call its first last number same aside quiet served =
    let behind = quiet_before first (Did its reply ∷ (last ++ End its ∷ [])) quiet in
    let end = quiet_before last (End its ∷ []) served in
    let did : did_in call (Did its reply ∷ (last ++ End its ∷ [])) ≡ Some reply = ap (λ b. cond b (Some reply) (did_in call (last ++ End its ∷ []))) (ap (λ n. n == call) same ∙ same_number call) in
    (number, refl, refl, did_behind call first (Did its reply ∷ (last ++ End its ∷ [])) aside ∙ did, behind.1 ∙ end.1 ∙ ap (λ n. n ∷ []) same, behind.0 ∙ end.0, behind.2 ∙ end.2)

-- ---- what is left of a call that ends its key's fill

pub record CallEnds (slots : List Slot) (key : List ℕ) (client : ℕ) (op : Op) (reply : Reply) (cache : Cache) (told : Told) : Type 0 where
  pub answers : (older : List Note) → cache.calls ≡ begun older + 1 → Answers older client op reply (Begin cache.calls client op ∷ told.part)
  pub calls : told.cache.calls ≡ cache.calls
  pub opens : Opens slots (adds_in (without_fill key (fills_of cache.nvm))) told.cache.memory.charges
  pub fills : fills_of told.cache.nvm ≡ without_fill key (fills_of cache.nvm)

pub call_ends : (slots : List Slot) (key : List ℕ) (there : Option FlashEntry) (client : ℕ) (op : Op) (reply : Reply) (cache : Cache) (told : Told)
    → Aside told.part → told.cache.calls ≡ cache.calls → fills_of told.cache.nvm ≡ fills_of cache.nvm → Opens slots (adds_in (fills_of cache.nvm)) told.cache.memory.charges → count (is_fill_of key) (fills_of cache.nvm) ≤ 1
    → CallEnds slots key client op reply cache (and_then told (replies_then reply (end_fill key there)))
call_ends slots key there client op reply cache told aside same fills opens one =
    let e = fill_ended slots key there told.cache (subst (λ (all : List Fill). count (is_fill_of key) all ≤ 1) (sym fills) one) (subst (λ (all : List Fill). Opens slots (adds_in all) told.cache.memory.charges) (sym fills) opens) in
    let less = ap (λ all. without_fill key all) fills in
    record {
      answers = λ older number. answers_by older client op reply cache.calls told.cache.calls told.part (end_fill key there told.cache).part number same aside (answering told.part aside) e.answering;
      calls = e.calls ∙ same;
      opens = subst (λ (all : List Fill). Opens slots (adds_in all) (end_fill key there told.cache).cache.memory.charges) less e.opens;
      fills = e.fills ∙ less;
    }

-- ---- what slots and fills have of the cache

pub one_fill : (flash : Option FlashConfig) (older : List Note) (memory : Memory) (nvm : Option Nvm) (key : List ℕ) → FlashPart flash older memory nvm → count (is_fill_of key) (fills_of nvm) ≤ 1
one_fill None older memory None key f = omega arith
one_fill None older memory (Some nvm) key f = absurd f
one_fill (Some flash) older memory None key f = absurd f
one_fill (Some flash) older memory (Some nvm) key f = f.fills.one key

pub not_kept : (n : ℕ) (nvm : Option Nvm) → count (adds n) (waiters_of (fills_of nvm)) ≡ 0 → is_kept_in nvm n ≡ false
not_kept n None h = refl
not_kept n (Some nvm) h = unkept_by n nvm.fills h

-- the cache knows what is in a slot
pub known_at : (config : Config) (older : List Note) (cache : Cache) (kept : List Kept) (slots : List Slot) (number : ℕ) (slot : Slot) → Agrees config older cache → SlotsMatch kept slots cache.memory.charges (fills_of cache.nvm) → slot_at number slots ≡ Some slot
    → is_known cache slot.handle ≡ true
known_at config older cache kept slots number slot g m at =
    let n = slot.handle.number in
    let own = found-counts (is_slot number) (holds n) slots slot at (same_number n) in
    let opened = open_in number cache.memory.charges slots slot at m.known in
    let unkept = not_kept n cache.nvm (omega (arith, m.held n, g.memory.charges.one_number n, own)) in
    λ i. opened i && not (unkept i)

-- ---- puts

module _ (config : Config) (log : List Note) (scene : Scene) (desk : Desk) (m : Matches log desk scene) (g : Agrees config desk.older scene.world.cache) where
  abbrev cache : Cache
  cache = scene.world.cache

  -- what is in the slot is stored, by an insert or an add
  pub stored : (client number : ℕ) (slot : Slot) (op : Op) → slot_at number scene.slots ≡ Some slot
      → CallEnds (without_slot number scene.slots) slot.handle.key client op note.Stored (begin client op cache).cache (store slot.handle (begin client op cache).cache)
  stored client number slot op at =
      let c = (begin client op cache).cache in
      let p = plant_aside slot.handle c in
      let opens = slot_goes scene.slots number slot (adds_in (fills_of cache.nvm)) cache.memory.charges at (m.slots.one_slot number) (opens_at config desk.older cache desk.slots scene.slots g m.slots) in
      call_ends (without_slot number scene.slots) slot.handle.key (Some (entry_of_handle slot.handle)) client op note.Stored c (plant slot.handle c) p.aside p.calls p.fills
      (subst (Opens (without_slot number scene.slots) (adds_in (fills_of cache.nvm))) (sym p.charges) opens) (one_fill config.flash desk.older cache.memory cache.nvm slot.handle.key g.flash)

  pub stored_jobs : (client : ℕ) (op : Op) (handle : Handle) → jobs_in (store handle (begin client op cache).cache).cache.nvm ≡ jobs_in cache.nvm
  stored_jobs client op handle =
      let c = (begin client op cache).cache in
      still_jobs cache.nvm (store handle c).cache.nvm (store_leaves calm handle c).flash

  pub ended_adds : (calls : ℕ) (key : List ℕ) (after : Cache) → after.calls ≡ cache.calls + 1 → fills_of after.nvm ≡ without_fill key (fills_of cache.nvm) → AddsMatch desk.adds after.calls (fills_of after.nvm)
  ended_adds calls key after c f = record {
    told = subst (λ (all : List Fill). AllTold desk.adds (waiters_of all)) (sym f) (fewer_told desk.adds (λ fill. not (is_fill_of key fill)) (fills_of cache.nvm) m.adds.told);
    one_add = m.adds.one_add;
    fresh = λ n later. m.adds.fresh n (omega (arith, later, c));
  }

  pub slots_less : (number : ℕ) (slot : Slot) → slot_at number scene.slots ≡ Some slot → without_kept number desk.slots ≡ map kept_of (without_slot number scene.slots)
  slots_less number slot at = ap (without_kept number) m.slots.same ∙ kept-less number scene.slots

  pub one_less : (number n : ℕ) → count (is_slot n) (without_slot number scene.slots) ≤ 1
  one_less number n = omega (arith, count-fewer (is_slot n) (λ slot. not (is_slot number slot)) scene.slots, m.slots.one_slot n)
