-- A find follows.
use Rattle.std.proofs.Common.{◌≡◌, ℕ, ◌+◌, Bool, true, false, List, Some, None, refl, ap, sym, subst, arith, cond}
use Rattle.std.specs.Prelude.{if◌then◌else◌}
use Rattle.hc_types.specs.Config.{Config}
use Rattle.hc_memory.specs.Item.{Open}
use Rattle.hc_memory.specs.Memory.{Memory}
use Rattle.hc_history.specs.Note as note
use Rattle.hc_history.specs.Note.{Note}
use Rattle.hc_machine.specs.Nvm.{ToFind, Fill, joined_by, adds}
use Rattle.hc_machine.specs.Cache.{Cache, Moved, Waits, answers}
use Rattle.hc_machine.specs.World.{by_call}
use Rattle.hc_machine.specs.Waiting.{live, find_reply}
use Rattle.hc_machine.specs.Calls.{begin, wait_for, after_begin, find_now, used, in_memory, must_wait}
use Rattle.hc_machine.specs.Schedule.{Slot, Scene, Find, in_world}
use Rattle.hc_invariant.specs.Good.{Agrees, fills_of}
use Rattle.hc_proof.proofs.frames.ByNumber.{same_number}
use Rattle.hc_follows.specs.Desk.{Desk, Adding, Kept}
use Rattle.hc_theorem.specs.clients.Matches.{SlotsMatch, AddsMatch, Matches}
use Rattle.hc_theorem.specs.clients.Deeds.{Followed, DeedFollows}
use Rattle.hc_theorem.proofs.clients.Adds.{joined_told}
use Rattle.hc_theorem.proofs.slots.Serving.{joined_counts}
use Rattle.hc_theorem.proofs.clients.Stepping.{good_at, called_matches}
use Rattle.hc_theorem.proofs.clients.Waiting.{waits_by_books, waits_in, waited}

-- a call more was begun
pub adds_later : (all : List Adding) (calls : ℕ) (fills : List Fill) → AddsMatch all calls fills → AddsMatch all (calls + 1) fills
adds_later all calls fills a = record { told = a.told; one_add = a.one_add; fresh = λ n later. a.fresh n (omega (arith, later)) }

-- a find waits
slots_find : (kept : List Kept) (slots : List Slot) (charges : List Open) (fills : List Fill) (key : List ℕ) (call : ℕ) → SlotsMatch kept slots charges fills → SlotsMatch kept slots charges (joined_by key (record { call = call; wish = ToFind }) fills)
slots_find kept slots charges fills key call s = record {
  same = s.same;
  one_slot = s.one_slot;
  known = s.known;
  held = λ n. omega (arith, s.held n, joined_counts (adds n) key (record { call = call; wish = ToFind }) fills);
}

adds_find : (all : List Adding) (calls : ℕ) (fills : List Fill) (key : List ℕ) → AddsMatch all calls fills → AddsMatch all (calls + 1) (joined_by key (record { call = calls + 1; wish = ToFind }) fills)
adds_find all calls fills key a = record {
  told = joined_told all key (record { call = calls + 1; wish = ToFind }) fills (a.fresh (calls + 1) (omega arith)) a.told;
  one_add = a.one_add;
  fresh = λ n later. a.fresh n (omega (arith, later));
}

module _ (config : Config) (log : List Note) (scene : Scene) (desk : Desk) (m : Matches log desk scene) (client : ℕ) (key : List ℕ) (g : Agrees config desk.older scene.world.cache) where
  abbrev cache : Cache
  cache = scene.world.cache

  abbrev find_if : Bool → Moved
  find_if t = after_begin (λ c. if t then answers (Waits c.calls) (wait_for key ToFind c) else find_now (find_reply (live c.now (in_memory c key))) (used key c)) (begin client (note.Find key) cache)

  find_by_wait : (t : Bool) → must_wait cache key ≡ t → Followed config log desk client (Find key) (in_world scene.slots (by_call scene.world (find_if t)))
  find_by_wait true h =
      let w = waited (begin client (note.Find key) cache).cache cache.nvm key ToFind refl (waits_in cache key h) in
      let fills = fills_of (find_if true).cache.nvm in
      record {
        part = waits_by_books config desk.older cache client (note.Find key) g h;
        matches = called_matches log desk scene scene.slots (find_if true) desk.slots desk.adds m w.jobs
            (subst (λ (memory : Memory). SlotsMatch desk.slots scene.slots memory.charges fills) (sym w.memory)
            (subst (SlotsMatch desk.slots scene.slots cache.memory.charges) (sym w.fills) (slots_find desk.slots scene.slots cache.memory.charges (fills_of cache.nvm) key (cache.calls + 1) m.slots)))
            (subst (λ (calls : ℕ). AddsMatch desk.adds calls fills) (sym w.calls) (subst (AddsMatch desk.adds (cache.calls + 1)) (sym w.fills) (adds_find desk.adds cache.calls (fills_of cache.nvm) key m.adds)));
      }
  find_by_wait false h =
      let reply = find_reply (live cache.now (in_memory cache key)) in
      record {
        part = (ap (λ n. n + 1) (sym g.calls.number), refl, refl, ap (λ b. cond b (Some reply) None) (same_number (cache.calls + 1)), refl, refl, refl);
        matches = called_matches log desk scene scene.slots (find_if false) desk.slots desk.adds m refl m.slots (adds_later desk.adds cache.calls (fills_of cache.nvm) m.adds);
      }

pub find_follows : (key : List ℕ) → DeedFollows (Find key)
find_follows key config log scene desk client before after m = find_by_wait config log scene desk m client key (good_at config log desk scene before m).agrees (must_wait scene.world.cache key) refl
