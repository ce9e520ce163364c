-- What every kind of step shares: the books at the desk, what ties slots to what was kept of them, and what a call leaves.
use Rattle.std.proofs.Common.{◌≡◌, ℕ, ◌≤◌, Bool, true, false, not, List, [], ◌∷◌, ◌++◌, map, Some, refl, ap, sym, ◌∙◌, subst, arith}
use Rattle.std.specs.Prelude.{if◌then◌else◌, option_map, nat_lt}
use Rattle.std.proofs.lemmas.Bool.{eqb-true}
use Rattle.hc_types.specs.Config.{Config}
use Rattle.hc_types.specs.Tally.{count}
use Rattle.hc_memory.specs.Item.{Open}
use Rattle.hc_history.specs.Note.{Note}
use Rattle.hc_history.specs.Lawful.{past}
use Rattle.hc_history.proofs.Appended.{past-append}
use Rattle.hc_machine.specs.Nvm.{Fill, Job}
use Rattle.hc_machine.specs.Cache.{Cache, Moved}
use Rattle.hc_machine.specs.World.{by_call}
use Rattle.hc_machine.specs.Schedule.{Slot, Scene, is_slot, slot_at, without_slot, with_slot, in_world}
use Rattle.hc_invariant.specs.Good.{Good, Agrees, fills_of}
use Rattle.hc_proof.proofs.frames.ByNumber.{found-passes}
use Rattle.hc_machine.specs.Quiet.{jobs_in}
use Rattle.hc_theorem.specs.runs.Scene.{SceneHolds}
use Rattle.hc_follows.specs.Desk.{Kept, Adding, Desk, kept_at, without_kept, with_kept}
use Rattle.hc_theorem.specs.clients.Matches.{kept_of, SlotsMatch, AddsMatch, JobsMatch, Matches}
use Rattle.hc_theorem.specs.slots.Opens.{Opens, adds_in}

-- ---- the books at the desk

pub good_at : (config : Config) (log : List Note) (desk : Desk) (scene : Scene) → SceneHolds config log scene → Matches log desk scene → Good config desk.older scene.world.cache
good_at config log desk scene h m = subst (λ (older : List Note). Good config older scene.world.cache) (sym m.older) h.holds.good

pub opens_at : (config : Config) (older : List Note) (cache : Cache) (kept : List Kept) (slots : List Slot) → Agrees config older cache → SlotsMatch kept slots cache.memory.charges (fills_of cache.nvm) → Opens slots (adds_in (fills_of cache.nvm)) cache.memory.charges
opens_at config older cache kept slots g m = record { held = m.held; unique = λ n. omega (arith, g.memory.charges.one_number n); known = m.known }

pub slots_by : (kept : List Kept) (slots : List Slot) (charges : List Open) (fills : List Fill) → kept ≡ map kept_of slots → ((n : ℕ) → count (is_slot n) slots ≤ 1) → Opens slots (adds_in fills) charges → SlotsMatch kept slots charges fills
slots_by kept slots charges fills same one h = record { same = same; one_slot = one; known = h.known; held = h.held }

-- ---- slots and what was kept of them

pub kept-at : (number : ℕ) (slots : List Slot) → kept_at number (map kept_of slots) ≡ option_map kept_of (slot_at number slots)
kept-at number [] = refl
kept-at number (slot ∷ slots) = go (is_slot number slot) (kept-at number slots)
  where
    go : (t : Bool) → kept_at number (map kept_of slots) ≡ option_map kept_of (slot_at number slots) → (if t then Some (kept_of slot) else kept_at number (map kept_of slots)) ≡ option_map kept_of (if t then Some slot else slot_at number slots)
    go true h = refl
    go false h = h

pub kept-less : (number : ℕ) (slots : List Slot) → without_kept number (map kept_of slots) ≡ map kept_of (without_slot number slots)
kept-less number [] = refl
kept-less number (slot ∷ slots) = go (is_slot number slot) (kept-less number slots)
  where
    go : (t : Bool) → without_kept number (map kept_of slots) ≡ map kept_of (without_slot number slots)
        → (if not t then kept_of slot ∷ without_kept number (map kept_of slots) else without_kept number (map kept_of slots)) ≡ map kept_of (if not t then slot ∷ without_slot number slots else without_slot number slots)
    go true h = h
    go false h = ap (λ l. kept_of slot ∷ l) h

pub kept-with : (slot : Slot) (slots : List Slot) → with_kept (kept_of slot) (map kept_of slots) ≡ map kept_of (with_slot slot slots)
kept-with slot [] = refl
kept-with slot (other ∷ others) = go (nat_lt slot.number other.number) (kept-with slot others)
  where
    go : (t : Bool) → with_kept (kept_of slot) (map kept_of others) ≡ map kept_of (with_slot slot others)
        → (if t then kept_of slot ∷ kept_of other ∷ map kept_of others else kept_of other ∷ with_kept (kept_of slot) (map kept_of others)) ≡ map kept_of (if t then slot ∷ other ∷ others else other ∷ with_slot slot others)
    go true h = refl
    go false h = ap (λ l. kept_of other ∷ l) h

pub slot_number : (number : ℕ) (slots : List Slot) (slot : Slot) → slot_at number slots ≡ Some slot → slot.number ≡ number
slot_number number slots slot at = eqb-true slot.number number (found-passes (is_slot number) slots slot at)

-- ---- what a call leaves

pub older_after : (log : List Note) (older part : List Note) → older ≡ past [] log → past older part ≡ past [] (log ++ part)
older_after log older part e = ap (λ o. past o part) e ∙ sym (past-append [] log part)

pub called_matches : (log : List Note) (desk : Desk) (scene : Scene) (slots : List Slot) (moved : Moved) (kept : List Kept) (all : List Adding) → Matches log desk scene → jobs_in moved.cache.nvm ≡ jobs_in scene.world.cache.nvm
    → SlotsMatch kept slots moved.cache.memory.charges (fills_of moved.cache.nvm) → AddsMatch all moved.cache.calls (fills_of moved.cache.nvm)
    → Matches (log ++ moved.part) (record { older = past desk.older moved.part; slots = kept; jobs = desk.jobs; adds = all; pages = desk.pages; failures = desk.failures }) (in_world slots (by_call scene.world moved)).scene
called_matches log desk scene slots moved kept all m same by_slots by_adds = record {
  older = older_after log desk.older moved.part m.older;
  slots = by_slots;
  adds = by_adds;
  jobs = subst (λ (jobs : List Job). JobsMatch desk.jobs desk.pages jobs scene.world.results scene.world.pages) (sym same) m.jobs;
  failures = m.failures;
}
