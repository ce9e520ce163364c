-- A key is removed: what the parts of that need, and that they are the machine's step.
use Rattle.std.proofs.Common.{◌≡◌, ℕ, ◌+◌, ◌*◌, ◌≤◌, List, Option, Some, None, refl, sym, ap, ◌∙◌, subst, arith}
use Rattle.std.specs.Prelude.{option_map}
use Rattle.hc_memory.specs.Item.{Item}
use Rattle.hc_memory.specs.Memory.{linked_at}
use Rattle.hc_memory.specs.Sound.{Sound}
use Rattle.hc_history.specs.Note.{Remove}
use Rattle.hc_history.specs.Told.{told_more, is_log}
use Rattle.hc_machine.specs.Cache.{Cache, Told, Replied, and_then}
use Rattle.hc_machine.specs.Calls.{begin, replies_then, remove_reply, remove_by, remove}
use Rattle.hc_machine.specs.Waiting.{uproot, end_fill}
use Rattle.hc_invariant.specs.Jobs.{AllWish}
use Rattle.hc_invariant.specs.Structure.{Structured}
use Rattle.hc_nvm.specs.declared.outdating.Outdating.{Outdating}
use Rattle.hc_state.specs.wait.Courses.{AreCourses}
use Rattle.hc_state.specs.store.Link.{linked_without, number_at}
use Rattle.hc_state.specs.store.Clear.{ServesIn}
use Rattle.hc_state.specs.store.Plan.{HasRoomFor}
use Rattle.hc_state.specs.remove.Answer.{removed_of, removed_reply}
use Rattle.hc_state.specs.wait.Commit.{waiters_at}
use Rattle.hc_state.specs.store.Commit.{unstore_as, how_many, CanServe}
use Rattle.hc_state.specs.Whole.{Whole, costs, for_notes, Does, Stays, IsStep}
use Rattle.hc_state.specs.declared.wait.commit.Course.{Course}
use Rattle.hc_state.proofs.wait.Ends.{can-then, many-then}
use Rattle.hc_state.proofs.store.Fewer.{open_in, unlinked-fewer, unstore-fewer}
use Rattle.hc_state.proofs.Joining.{does-both}
use Rattle.hc_state.proofs.store.Planted.{wishes-of, removed-by, remove-can}
use Rattle.hc_state.proofs.store.Unqueued.{does-log, serves-then}

-- what is answered goes by the item that the key had
pub removed-reply : (key : List ℕ) (cache : Cache) (standing : Option ℕ) → standing ≡ number_at key cache.memory → removed_reply (removed_of standing) ≡ remove_reply (linked_at key cache.memory.pools)
removed-reply key cache standing is = ap (λ s. removed_reply (removed_of s)) is ∙ by (linked_at key cache.memory.pools)
  where
    by : (found : Option Item) → removed_reply (removed_of (option_map (λ (item : Item). item.number) found)) ≡ remove_reply found
    by None = refl
    by (Some item) = refl

pub remove-wishes : (key : List ℕ) (old mid : Whole) → Stays old mid → Structured old.cache → AllWish mid.cache.memory key (waiters_at mid.cache.nvm key)
remove-wishes key old mid stays structured = subst (λ (c : Cache). AllWish c.memory key (waiters_at c.nvm key)) (sym stays.cache) (wishes-of key old.cache structured)

-- ---- once it is unlinked, and the call began

module _ {A : Type 0} (client : ℕ) (key : List ℕ) (courses : List (Course A)) (old mid unlinked begun : Whole) (stays : Stays old mid) (unlinks : unlinked ≡ record mid { cache = linked_without key courses mid.cache })
    (begins : Does (begin client (Remove key) unlinked.cache) (for_notes 1) unlinked begun) where
  abbrev begins_with : Told
  begins_with = begin client (Remove key) unlinked.cache

  unlinked_cache : unlinked.cache ≡ linked_without key courses old.cache
  unlinked_cache = ap (λ (w : Whole). w.cache) unlinks ∙ ap (λ (c : Cache). linked_without key courses c) stays.cache

  many : how_many key begun ≡ how_many key mid
  many = many-then key begins_with (for_notes 1) unlinked begun begins refl ∙ ap (λ (w : Whole). how_many key w) unlinks

  pub remove-serves : (plan : Outdating A) → ServesIn (is_log mid.log) key mid.cache.nvm plan → ServesIn (is_log begun.log) key begun.cache.nvm plan
  remove-serves plan serves =
      serves-then key plan unlinked begun begins_with.cache (does-log begins_with (for_notes 1) unlinked begun begins) begins.cache
      (subst (λ (w : Whole). ServesIn (is_log w.log) key w.cache.nvm plan) (sym unlinks) serves)

  pub remove-stones : HasRoomFor key mid → how_many key begun + 1 ≤ begun.spare.stones
  remove-stones room = omega (arith, many, begins.room.stones, room.stones, ap (λ (w : Whole). w.spare.stones) unlinks)

  pub remove-notes : HasRoomFor key mid → 6 * how_many key begun + 6 ≤ begun.notes
  remove-notes room = omega (arith, many, begins.room.notes, room.notes, ap (λ (w : Whole). w.notes) unlinks)

  module _ (structured : Structured old.cache) (sound : Sound old.cache.memory.pools old.cache.memory.charges old.cache.memory.made)
      (plan : AreCourses (is_log mid.log) key mid.cache.now (waiters_at mid.cache.nvm key) None courses) where
    plan_old : AreCourses (is_log mid.log) key old.cache.now (waiters_at old.cache.nvm key) None courses
    plan_old = subst (λ (c : Cache). AreCourses (is_log mid.log) key c.now (waiters_at c.nvm key) None courses) stays.cache plan

    pub remove-serves-all : CanServe key courses begun
    remove-serves-all =
        can-then key courses begins_with (for_notes 1) unlinked begun begins refl refl
        (remove-can (is_log mid.log) key courses old.cache structured sound plan_old unlinked (ap (λ (w : Whole). is_log w.log) unlinks) unlinked_cache)

    pub remove-step : (standing : Option ℕ) (new : Whole) → HasRoomFor key mid → standing ≡ number_at key mid.cache.memory
        → Does (unstore_as standing (removed_reply (removed_of standing)) key courses begun.cache) (costs (6 * how_many key begun + 6) 0 (how_many key begun + 1) 0) begun new
        → IsStep (remove client key old.cache) (Replied (removed_reply (removed_of standing))) old new
    remove-step standing new room stands clears =
        let m = how_many key begun in
        let reply = removed_reply (removed_of standing) in
        let then = unstore_as standing reply key courses in
        let all = does-both begins_with then (for_notes 1) (costs (6 * m + 6) 0 (m + 1) 0) unlinked begun new begins clears in
        let at : standing ≡ number_at key old.cache.memory = stands ∙ ap (λ (c : Cache). number_at key c.memory) stays.cache in
        let is : reply ≡ remove_reply (linked_at key old.cache.memory.pools) = removed-reply key old.cache standing at in
        let same : and_then (begin client (Remove key) unlinked.cache) then ≡ and_then (begin client (Remove key) old.cache) (λ (c : Cache). and_then (uproot key c) (replies_then reply (end_fill key None))) =
        ap (λ (c : Cache). and_then (begin client (Remove key) c) then) unlinked_cache
        ∙ removed-by (is_log mid.log) key courses old.cache structured sound plan_old standing reply client (Remove key) at in
        let log : unlinked.log ≡ old.log = ap (λ (w : Whole). w.log) unlinks ∙ stays.log in
        subst (λ r. IsStep (remove_by r client key old.cache) (Replied reply) old new) is (record {
          cache = all.cache ∙ ap (λ (told : Told). told.cache) same;
          answer_is = refl;
          log = all.log ∙ (λ i. told_more (log i) (same i).part);
          ready = omega (
            arith,
            ap open_in clears.cache,
            unstore-fewer standing reply key courses begun.cache,
            ap open_in begins.cache,
            ap open_in (ap (λ (w : Whole). w.cache) unlinks),
            unlinked-fewer key courses mid.cache,
            ap (λ (w : Whole). w.notes) unlinks,
            begins.room.notes,
            clears.room.notes,
            room.notes,
            many,
          );
        })
