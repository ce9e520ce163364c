-- An insert, a remove and a discard follow.
use Rattle.std.proofs.Common.{◌≡◌, ℕ, ◌+◌, Bool, true, false, not, List, [], ◌∷◌, ◌++◌, Option, Some, None, refl, ap, sym, ◌∙◌, subst}
use Rattle.std.specs.Prelude.{if◌then◌else◌, map, option_map}
use Rattle.hc_types.specs.Config.{Config}
use Rattle.hc_types.specs.declared.refusal.Refusal.TheVariants.{ForeignHandle, UnknownCall}
use Rattle.hc_memory.specs.Item.{Open}
use Rattle.hc_memory.specs.Charges.{closed}
use Rattle.hc_memory.specs.Memory.{linked_at}
use Rattle.hc_history.specs.Note as note
use Rattle.hc_history.specs.Note.{Note, Op, Freed}
use Rattle.hc_history.specs.Lawful.{past}
use Rattle.hc_machine.specs.Nvm.{Fill}
use Rattle.hc_machine.specs.Cache.{Cache, Moved, Refused, Replied, Discarded, and_then, answers, stays}
use Rattle.hc_machine.specs.World.{by_call}
use Rattle.hc_machine.specs.Waiting.{uproot, free}
use Rattle.hc_machine.specs.Calls.{begin, replies_then, store, is_known, remove_reply}
use Rattle.hc_machine.specs.Calls as calls
use Rattle.hc_machine.specs.Schedule.{Slot, Scene, Put, Discard, Remove, NoSlot, Tells, slot_at, is_slot, without_slot, in_world, puts, discards}
use Rattle.hc_machine.specs.World.{Says}
use Rattle.hc_invariant.specs.Good.{Agrees, fills_of}
use Rattle.hc_laws.proofs.walk.Calls.{remove_leaves}
use Rattle.hc_theorem.proofs.idle.StillParts.{calm, still_jobs}
use Rattle.hc_follows.specs.Desk.{Desk, Kept, kept_at, without_kept}
use Rattle.hc_follows.specs.Clients.{PutPart, DiscardPart}
use Rattle.hc_theorem.specs.clients.Matches.{kept_of, SlotsMatch, Matches}
use Rattle.hc_theorem.specs.slots.Opens.{Opens, adds_in}
use Rattle.hc_theorem.specs.clients.Deeds.{Followed, DeedFollows}
use Rattle.hc_proof.proofs.shapes.Asides.{uproot_aside}
use Rattle.hc_theorem.proofs.slots.Opens.{slot_goes}
use Rattle.hc_theorem.proofs.clients.Stepping.{good_at, opens_at, slots_by, kept-at, kept-less, slot_number, called_matches}
use Rattle.hc_theorem.proofs.clients.Changing.{call_ends, one_fill, known_at, stored, stored_jobs, ended_adds, slots_less, one_less}

-- ---- an empty slot

none_less : (number : ℕ) (slots : List Slot) → slot_at number slots ≡ None → without_slot number slots ≡ slots
none_less number [] e = refl
none_less number (slot ∷ slots) e = go (is_slot number slot) (none_less number slots) e
  where
    go : (t : Bool) → (slot_at number slots ≡ None → without_slot number slots ≡ slots) → (if t then Some slot else slot_at number slots) ≡ None → (if not t then slot ∷ without_slot number slots else without_slot number slots) ≡ slot ∷ slots
    go true rest e = absurd cc
    go false rest e = ap (λ l. slot ∷ l) (rest e)

pub kept_is : (log : List Note) (desk : Desk) (scene : Scene) (number : ℕ) (o : Option Slot) → Matches log desk scene → slot_at number scene.slots ≡ o → kept_at number desk.slots ≡ option_map kept_of o
kept_is log desk scene number o m at = ap (kept_at number) m.slots.same ∙ kept-at number scene.slots ∙ ap (option_map kept_of) at

-- nothing happens
pub nothing_matches : (log : List Note) (desk : Desk) (scene : Scene) (kept : List Kept) → Matches log desk scene → kept ≡ desk.slots → Matches (log ++ []) (record { older = desk.older; slots = kept; jobs = desk.jobs; adds = desk.adds; pages = desk.pages; failures = desk.failures }) scene
nothing_matches log desk scene kept m same =
    called_matches log desk scene scene.slots (stays (Refused UnknownCall) scene.world.cache) kept desk.adds m refl
    (subst (λ (k : List Kept). SlotsMatch k scene.slots scene.world.cache.memory.charges (fills_of scene.world.cache.nvm)) (sym same) m.slots) m.adds

pub empty_less : (log : List Note) (desk : Desk) (scene : Scene) (number : ℕ) → Matches log desk scene → slot_at number scene.slots ≡ None → without_kept number desk.slots ≡ desk.slots
empty_less log desk scene number m at = ap (without_kept number) m.slots.same ∙ kept-less number scene.slots ∙ ap (map kept_of) (none_less number scene.slots at) ∙ sym m.slots.same

-- ---- a slot's item goes

module _ (config : Config) (log : List Note) (scene : Scene) (desk : Desk) (m : Matches log desk scene) (g : Agrees config desk.older scene.world.cache) where
  abbrev cache : Cache
  cache = scene.world.cache

  pub slots_left : (number : ℕ) (slot : Slot) (charges : List Open) (fills : List Fill) → slot_at number scene.slots ≡ Some slot → Opens (without_slot number scene.slots) (adds_in fills) charges
      → SlotsMatch (without_kept number desk.slots) (without_slot slot.number scene.slots) charges fills
  slots_left number slot charges fills at opens =
      subst (λ (n : ℕ). SlotsMatch (without_kept number desk.slots) (without_slot n scene.slots) charges fills) (sym (slot_number number scene.slots slot at))
      (slots_by (without_kept number desk.slots) (without_slot number scene.slots) charges fills (slots_less config log scene desk m g number slot at) (one_less config log scene desk m g number) opens)

  -- stored, by an insert or an add
  pub stored_matches : (client number : ℕ) (slot : Slot) (op : Op) → slot_at number scene.slots ≡ Some slot
      → let moved = answers (Replied note.Stored) (and_then (begin client op cache) (store slot.handle)) in
      Matches (log ++ moved.part) (record { older = past desk.older moved.part; slots = without_kept number desk.slots; jobs = desk.jobs; adds = desk.adds; pages = desk.pages; failures = desk.failures }) (in_world (without_slot slot.number scene.slots) (by_call scene.world moved)).scene
  stored_matches client number slot op at =
      let moved = answers (Replied note.Stored) (and_then (begin client op cache) (store slot.handle)) in
      let e = stored config log scene desk m g client number slot op at in
      called_matches log desk scene (without_slot slot.number scene.slots) moved (without_kept number desk.slots) desk.adds m (stored_jobs config log scene desk m g client op slot.handle)
      (slots_left number slot moved.cache.memory.charges (fills_of moved.cache.nvm) at (subst (λ (all : List Fill). Opens (without_slot number scene.slots) (adds_in all) moved.cache.memory.charges) (sym e.fills) e.opens))
      (ended_adds config log scene desk m g cache.calls slot.handle.key moved.cache e.calls e.fills)

  abbrev put_if : Bool → ℕ → Slot → Moved
  put_if t client slot = if t then answers (Replied note.Stored) (and_then (begin client (note.Insert slot.handle.key slot.handle.value slot.handle.expiry) cache) (store slot.handle)) else stays (Refused ForeignHandle) cache

  put_known : (client number : ℕ) (slot : Slot) → slot_at number scene.slots ≡ Some slot → (t : Bool) → is_known cache slot.handle ≡ t → Followed config log desk client (Put number) (in_world (without_slot slot.number scene.slots) (by_call scene.world (put_if t client slot)))
  put_known client number slot at false k = absurd (let known = known_at config desk.older cache desk.slots scene.slots number slot g m.slots at in cc)
  put_known client number slot at true k =
      let op = note.Insert slot.handle.key slot.handle.value slot.handle.expiry in
      let moved = put_if true client slot in
      let e = stored config log scene desk m g client number slot op at in
      record {
        part = subst (λ (kept : Option Kept). PutPart desk.older client kept (Tells (Says (Replied note.Stored))) moved.part) (sym (kept_is log desk scene number (Some slot) m at)) (e.answers desk.older (ap (λ n. n + 1) (sym g.calls.number)));
        matches = stored_matches client number slot op at;
      }

  put_at : (client number : ℕ) (o : Option Slot) → slot_at number scene.slots ≡ o → Followed config log desk client (Put number) (puts o client scene)
  put_at client number None at = record {
    part = subst (λ (kept : Option Kept). PutPart desk.older client kept NoSlot []) (sym (kept_is log desk scene number None m at)) refl;
    matches = nothing_matches log desk scene (without_kept number desk.slots) m (empty_less log desk scene number m at);
  }
  put_at client number (Some slot) at = put_known client number slot at (is_known cache slot.handle) refl

  -- ---- discards

  abbrev discard_if : Bool → Slot → Moved
  discard_if t slot = if t then answers Discarded (free slot.handle.number cache) else stays (Refused ForeignHandle) cache

  discard_known : (client number : ℕ) (slot : Slot) → slot_at number scene.slots ≡ Some slot → (t : Bool) → is_known cache slot.handle ≡ t → Followed config log desk client (Discard number) (in_world (without_slot slot.number scene.slots) (by_call scene.world (discard_if t slot)))
  discard_known client number slot at false k = absurd (let known = known_at config desk.older cache desk.slots scene.slots number slot g m.slots at in cc)
  discard_known client number slot at true k = record {
    part = subst (λ (kept : Option Kept). DiscardPart kept (Tells (Says Discarded)) (Freed slot.handle.number ∷ [])) (sym (kept_is log desk scene number (Some slot) m at)) refl;
    matches = called_matches log desk scene (without_slot slot.number scene.slots) (discard_if true slot) (without_kept number desk.slots) desk.adds m refl
        (slots_left number slot (closed slot.handle.number cache.memory.charges) (fills_of cache.nvm) at
        (slot_goes scene.slots number slot (adds_in (fills_of cache.nvm)) cache.memory.charges at (m.slots.one_slot number) (opens_at config desk.older cache desk.slots scene.slots g m.slots)))
        m.adds;
  }

  discard_at : (client number : ℕ) (o : Option Slot) → slot_at number scene.slots ≡ o → Followed config log desk client (Discard number) (discards o scene)
  discard_at client number None at = record {
    part = subst (λ (kept : Option Kept). DiscardPart kept NoSlot []) (sym (kept_is log desk scene number None m at)) refl;
    matches = nothing_matches log desk scene (without_kept number desk.slots) m (empty_less log desk scene number m at);
  }
  discard_at client number (Some slot) at = discard_known client number slot at (is_known cache slot.handle) refl

  -- ---- removes

  remove_by : (client : ℕ) (key : List ℕ) (reply : note.Reply) → Followed config log desk client (Remove key) (in_world scene.slots (by_call scene.world (calls.remove_by reply client key cache)))
  remove_by client key reply =
      let c = (begin client (note.Remove key) cache).cache in
      let u = uproot_aside key c in
      let moved = calls.remove_by reply client key cache in
      let opens = opens_at config desk.older cache desk.slots scene.slots g m.slots in
      let e = call_ends scene.slots key None client (note.Remove key) reply c (uproot key c) u.aside u.calls u.fills (subst (Opens scene.slots (adds_in (fills_of cache.nvm))) (sym u.charges) opens) (one_fill config.flash desk.older cache.memory cache.nvm key g.flash) in
      let jobs = still_jobs cache.nvm moved.cache.nvm (remove_leaves calm reply client key cache).flash in
      record {
        part = e.answers desk.older (ap (λ n. n + 1) (sym g.calls.number));
        matches = called_matches log desk scene scene.slots moved desk.slots desk.adds m jobs
            (slots_by desk.slots scene.slots moved.cache.memory.charges (fills_of moved.cache.nvm) m.slots.same m.slots.one_slot (subst (λ (all : List Fill). Opens scene.slots (adds_in all) moved.cache.memory.charges) (sym e.fills) e.opens))
            (ended_adds config log scene desk m g cache.calls key moved.cache e.calls e.fills);
      }

pub put_follows : (slot : ℕ) → DeedFollows (Put slot)
put_follows slot config log scene desk client before after m = put_at config log scene desk m (good_at config log desk scene before m).agrees client slot (slot_at slot scene.slots) refl

pub discard_follows : (slot : ℕ) → DeedFollows (Discard slot)
discard_follows slot config log scene desk client before after m = discard_at config log scene desk m (good_at config log desk scene before m).agrees client slot (slot_at slot scene.slots) refl

pub remove_follows : (key : List ℕ) → DeedFollows (Remove key)
remove_follows key config log scene desk client before after m = remove_by config log scene desk m (good_at config log desk scene before m).agrees client key (remove_reply (linked_at key scene.world.cache.memory.pools))
