-- What is told of an item that comes from flash, part by part.
use Rattle.std.proofs.Common.{◌≡◌, ℕ, ◌+◌, ◌*◌, List, [], ◌∷◌, Option, Some, length, sym, ap, ◌∙◌, arith, subst}
use Rattle.hc_history.specs.Note.{Charged, Linked}
use Rattle.hc_history.specs.Told.{is_log, Heard, where_kept}
use Rattle.hc_memory.specs.Item.{Item}
use Rattle.hc_memory.specs.Memory.{Memory}
use Rattle.hc_machine.specs.Nvm.{Waiter}
use Rattle.hc_machine.specs.Cache.{Cache, tells, and_then}
use Rattle.hc_machine.specs.Evicting.{all_leave}
use Rattle.hc_state.specs.Whole.{Whole, Does, costs, for_notes, both}
use Rattle.hc_state.specs.wait.Courses.{AllFit, AllMayFree, all_served_as}
use Rattle.hc_state.specs.declared.wait.commit.Course.{Course}
use Rattle.hc_state.specs.fill.Link.{brought_by}
use Rattle.hc_state.proofs.Joining.{does-both}
use Rattle.hc_state.proofs.allocate.Evicts.{kept-told, all_leave-stays}
use Rattle.hc_state.proofs.store.Unqueued.{does-log}

module _ (number pool want : ℕ) (key : List ℕ) (victims : List Item) (copy : Option (List ℕ)) (old left charged new : Whole) where
  -- the items left, and then it was charged and linked
  pub arrived : copy ≡ where_kept old.log key → Does (all_leave pool want victims old.cache) (costs (2 * length victims) (length victims) 0 0) old left
      → ((k : List ℕ) → copy ≡ where_kept left.log k → Does (tells (Charged number k pool want ∷ []) left.cache) (for_notes 1) left charged)
      → Does (tells (Linked number ∷ []) charged.cache) (for_notes 1) charged new → Does (brought_by number pool key want victims old.cache) (costs (2 * length victims + 2) (length victims) 0 0) old new
  arrived is leave charge link =
      let gone = all_leave pool want victims old.cache in
      let still : copy ≡ where_kept left.log key = is ∙ sym (ap (λ (h : Heard). where_kept h key) leave.log ∙ kept-told old.log gone.part key) in
      let first = does-both gone (λ c. tells (Charged number key pool want ∷ []) c) (costs (2 * length victims) (length victims) 0 0) (for_notes 1) old left charged leave (charge key still) in
      let all = does-both (and_then gone (λ c. tells (Charged number key pool want ∷ []) c)) (λ c. tells (Linked number ∷ []) c) (both (costs (2 * length victims) (length victims) 0 0) (for_notes 1)) (for_notes 1) old charged new first link in
      record {
        cache = all.cache;
        log = all.log;
        room = record {
          notes = omega (arith, all.room.notes);
          puts = omega (arith, all.room.puts);
          stones = omega (arith, all.room.stones);
          fills = omega (arith, all.room.fills);
        };
      }

-- ---- and the calls that wait are served

module _ {A : Type 0} (number pool want : ℕ) (key : List ℕ) (victims : List Item) (waiters : List Waiter) (courses : List (Course A)) (old told : Whole)
    (does : Does (brought_by number pool key want victims old.cache) (costs (2 * length victims + 2) (length victims) 0 0) old told) where
  pub arrived-fit : AllFit (is_log old.log) key waiters courses → AllFit (is_log told.log) key waiters courses
  arrived-fit fit = subst (λ b. AllFit b key waiters courses) (sym (does-log (brought_by number pool key want victims old.cache) (costs (2 * length victims + 2) (length victims) 0 0) old told does)) fit

  pub arrived-may-free : AllMayFree waiters courses old.cache.memory.charges → AllMayFree waiters courses told.cache.memory.charges
  arrived-may-free may = subst (λ cs. AllMayFree waiters courses cs) (sym (ap (λ (c : Cache). c.memory.charges) does.cache ∙ ap (λ (m : Memory). m.charges) (all_leave-stays pool want victims old.cache))) may

  pub arrived-served : (new : Whole) → Does (all_served_as waiters courses (Some number) told.cache) (costs (6 * length waiters) 0 (length waiters) 0) told new
      → Does (and_then (brought_by number pool key want victims old.cache) (all_served_as waiters courses (Some number))) (costs (2 * length victims + 2 + 6 * length waiters) (length victims) (length waiters) 0) old new
  arrived-served new served =
      let all = does-both (brought_by number pool key want victims old.cache) (all_served_as waiters courses (Some number)) (costs (2 * length victims + 2) (length victims) 0 0) (costs (6 * length waiters) 0 (length waiters) 0) old told new does served in
      record {
        cache = all.cache;
        log = all.log;
        room = record {
          notes = omega (arith, all.room.notes);
          puts = omega (arith, all.room.puts);
          stones = omega (arith, all.room.stones);
          fills = omega (arith, all.room.fills);
        };
      }
