-- An item of a handle that is known is stored: what its parts need, and that they are the machine's step.
use Rattle.std.proofs.Common.{◌≡◌, ℕ, ◌+◌, ◌*◌, ◌≤◌, true, List, length, Option, Some, refl, sym, ap, ◌∙◌, subst, arith}
use Rattle.hc_types.specs.FlashEntry.{FlashEntry}
use Rattle.hc_memory.specs.Item.{Handle}
use Rattle.hc_memory.specs.Sound.{Sound}
use Rattle.hc_history.specs.Note.{Op, Stored}
use Rattle.hc_history.specs.Told.{told_more, is_log}
use Rattle.hc_machine.specs.Cache.{Cache, Told, Replied, and_then, answers}
use Rattle.hc_machine.specs.Calls.{begin, store, is_known}
use Rattle.hc_machine.specs.Waiting.{entry_of_handle}
use Rattle.hc_invariant.specs.Jobs.{AllWish}
use Rattle.hc_invariant.specs.Structure.{Structured}
use Rattle.hc_nvm.specs.declared.outdating.Outdating.{Outdating}
use Rattle.hc_state.specs.wait.Courses.{AreCourses}
use Rattle.hc_state.specs.store.Link.{linked_with, number_at}
use Rattle.hc_state.specs.store.Clear.{ServesIn}
use Rattle.hc_state.specs.store.Plan.{HasRoomFor}
use Rattle.hc_state.specs.wait.Commit.{waiters_at}
use Rattle.hc_state.specs.store.Commit.{store_as, how_many, CanServe}
use Rattle.hc_state.specs.Whole.{Whole, costs, for_notes, Does, Stays, IsStep}
use Rattle.hc_state.specs.declared.wait.commit.Course.{Course}
use Rattle.hc_state.proofs.wait.Ends.{can-then, many-then}
use Rattle.hc_state.proofs.store.Fewer.{open_in, linked-fewer, store-fewer}
use Rattle.hc_state.proofs.Joining.{does-both}
use Rattle.hc_state.proofs.store.Links.{courses-long}
use Rattle.hc_state.proofs.store.Planted.{known, wishes-of, inserted-by, insert-can}
use Rattle.hc_state.proofs.store.Unqueued.{does-log, serves-then}

-- ---- before anything changes

module _ (h : Handle) (old mid : Whole) (stays : Stays old mid) where
  pub store-wishes : Structured old.cache → AllWish mid.cache.memory h.key (waiters_at mid.cache.nvm h.key)
  store-wishes structured = subst (λ (c : Cache). AllWish c.memory h.key (waiters_at c.nvm h.key)) (sym stays.cache) (wishes-of h.key old.cache structured)

pub plan-long : {A : Type 0} (key : List ℕ) (there : Option FlashEntry) (courses : List (Course A)) (mid : Whole) → AreCourses (is_log mid.log) key mid.cache.now (waiters_at mid.cache.nvm key) there courses → length courses ≡ length (waiters_at mid.cache.nvm key)
plan-long key there courses mid plan = courses-long (is_log mid.log) key mid.cache.now (waiters_at mid.cache.nvm key) there courses plan

-- ---- once it is linked, and the call began

module _ {A : Type 0} (client : ℕ) (op : Op) (h : Handle) (courses : List (Course A)) (old mid linked begun : Whole) (stays : Stays old mid) (links : linked ≡ record mid { cache = linked_with h courses mid.cache })
    (begins : Does (begin client op linked.cache) (for_notes 1) linked begun) where
  abbrev begins_with : Told
  begins_with = begin client op linked.cache

  linked_cache : linked.cache ≡ linked_with h courses old.cache
  linked_cache = ap (λ (w : Whole). w.cache) links ∙ ap (λ (c : Cache). linked_with h courses c) stays.cache

  many : how_many h.key begun ≡ how_many h.key mid
  many = many-then h.key begins_with (for_notes 1) linked begun begins refl ∙ ap (λ (w : Whole). how_many h.key w) links

  pub store-serves : (plan : Outdating A) → ServesIn (is_log mid.log) h.key mid.cache.nvm plan → ServesIn (is_log begun.log) h.key begun.cache.nvm plan
  store-serves plan serves =
      serves-then h.key plan linked begun begins_with.cache (does-log begins_with (for_notes 1) linked begun begins) begins.cache
      (subst (λ (w : Whole). ServesIn (is_log w.log) h.key w.cache.nvm plan) (sym links) serves)

  pub store-stones : HasRoomFor h.key mid → how_many h.key begun + 1 ≤ begun.spare.stones
  store-stones room = omega (arith, many, begins.room.stones, room.stones, ap (λ (w : Whole). w.spare.stones) links)

  pub store-notes : HasRoomFor h.key mid → 6 * how_many h.key begun + 7 ≤ begun.notes
  store-notes room = omega (arith, many, begins.room.notes, room.notes, ap (λ (w : Whole). w.notes) links)

  module _ (structured : Structured old.cache) (sound : Sound old.cache.memory.pools old.cache.memory.charges old.cache.memory.made) (knows : is_known old.cache h ≡ true)
      (plan : AreCourses (is_log mid.log) h.key mid.cache.now (waiters_at mid.cache.nvm h.key) (Some (entry_of_handle h)) courses) where
    plan_old : AreCourses (is_log mid.log) h.key old.cache.now (waiters_at old.cache.nvm h.key) (Some (entry_of_handle h)) courses
    plan_old = subst (λ (c : Cache). AreCourses (is_log mid.log) h.key c.now (waiters_at c.nvm h.key) (Some (entry_of_handle h)) courses) stays.cache plan

    pub store-can : CanServe h.key courses begun
    store-can =
        can-then h.key courses begins_with (for_notes 1) linked begun begins refl refl
        (insert-can (is_log mid.log) h courses old.cache structured sound (known old.cache h knows) plan_old linked (ap (λ (w : Whole). is_log w.log) links) linked_cache)

    pub store-step : (standing : Option ℕ) (new : Whole) → HasRoomFor h.key mid → standing ≡ number_at h.key mid.cache.memory
        → Does (store_as standing h.key h.number courses begun.cache) (costs (6 * how_many h.key begun + 7) 0 (how_many h.key begun + 1) 0) begun new
        → IsStep (answers (Replied Stored) (and_then (begin client op old.cache) (store h))) (Replied Stored) old new
    store-step standing new room stands stores =
        let m = how_many h.key begun in
        let then = store_as standing h.key h.number courses in
        let all = does-both begins_with then (for_notes 1) (costs (6 * m + 7) 0 (m + 1) 0) linked begun new begins stores in
        let at : standing ≡ number_at h.key old.cache.memory = stands ∙ ap (λ (c : Cache). number_at h.key c.memory) stays.cache in
        let same : and_then (begin client op linked.cache) then ≡ and_then (begin client op old.cache) (store h) =
        ap (λ (c : Cache). and_then (begin client op c) then) linked_cache
        ∙ inserted-by (is_log mid.log) h courses old.cache structured sound (known old.cache h knows) plan_old standing client op at in
        let log : linked.log ≡ old.log = ap (λ (w : Whole). w.log) links ∙ stays.log in
        record {
          cache = all.cache ∙ ap (λ (told : Told). told.cache) same;
          answer_is = refl;
          log = all.log ∙ (λ i. told_more (log i) (same i).part);
          ready = omega (
            arith,
            ap open_in stores.cache,
            store-fewer standing h.key h.number courses begun.cache,
            ap open_in begins.cache,
            ap open_in (ap (λ (w : Whole). w.cache) links),
            linked-fewer h courses mid.cache,
            ap (λ (w : Whole). w.notes) links,
            begins.room.notes,
            stores.room.notes,
            room.notes,
            many,
          );
        }
