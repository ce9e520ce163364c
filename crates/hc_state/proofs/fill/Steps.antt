-- A fill ends as the machine has it, part by part.
use Rattle.std.proofs.Common.{◌≡◌, ℕ, ◌+◌, ◌≤◌, Bool, true, false, List, length, Option, Some, None, refl, sym, ap, ◌∙◌, subst, append-nil, arith}
use Rattle.hc_types.specs.FlashEntry.{FlashEntry}
use Rattle.hc_engines.specs.Engine.{Loss}
use Rattle.hc_memory.specs.Memory.{Memory, linked_at, victims_of, early}
use Rattle.hc_history.specs.Told.{told_more}
use Rattle.hc_machine.specs.Nvm.{Waiter}
use Rattle.hc_machine.specs.Takes.{Filled, Taken, loss_notes}
use Rattle.hc_machine.specs.Cache.{Cache, Told, Took, behind, and_then, with_memory, unmarked_by, takes_in}
use Rattle.hc_machine.specs.Workers.{can_link, fill, after_take}
use Rattle.hc_state.specs.Whole.{Whole, Costs, Does, IsStep, both}
use Rattle.hc_state.specs.wait.Commit.{all_stored}
use Rattle.hc_state.specs.wait.Courses.{AreCourses, all_served_as}
use Rattle.hc_state.specs.fill.Link.{can_bring, brought_in, brought_by, is_lost, all_marked_by}
use Rattle.hc_state.specs.declared.wait.commit.Course.{Course}
use Rattle.hc_state.proofs.Joining.{does-both}
use Rattle.hc_state.proofs.wait.Courses as by_plan
use Rattle.hc_state.proofs.wait.Served.{Fits, AllFit}
use Rattle.hc_state.proofs.fill.Filled.{want_of, filled-over, filled-brought, brought-now}
use Rattle.hc_state.proofs.fill.Ready.{few-taken}

-- what was told is the machine's step
step_of : (taken : Taken) (told : Told) (cost : Costs) (old linked new : Whole) → told ≡ and_then (takes_in taken.part taken.nvm old.cache) (fill taken.filled) → linked.log ≡ old.log → linked.notes ≡ old.notes
    → Does told cost linked new → length old.cache.memory.charges + 1 + cost.notes ≤ old.notes → IsStep (after_take taken old.cache) (Took taken.take) old new
step_of taken told cost old linked new is log notes does room =
    let cache : new.cache ≡ (after_take taken old.cache).cache = does.cache ∙ ap (λ (t : Told). t.cache) is in
    record {
      cache = cache;
      answer_is = refl;
      log = does.log ∙ (λ i. told_more (log i) (is i).part);
      ready = omega (arith, ap (λ (c : Cache). length c.memory.charges) cache, few-taken taken old.cache, does.room.notes, notes, room);
    }

-- no fill ended with it
pub none-step : (taken : Taken) (cost : Costs) (old new : Whole) → taken.filled ≡ None → Does (takes_in taken.part taken.nvm old.cache) cost old new → length old.cache.memory.charges + 1 + cost.notes ≤ old.notes → IsStep (after_take taken old.cache) (Took taken.take) old new
none-step taken cost old new none does room =
    let in_all = takes_in taken.part taken.nvm old.cache in
    step_of taken in_all cost old old new
    ((λ i. record { cache = in_all.cache; part = sym (append-nil taken.part) i }) ∙ ap (λ (f : Option Filled). and_then in_all (fill f)) (sym none))
    refl refl does room

-- nothing was brought: the last item that the calls store was linked first
pub bare-step : {A : Type 0} (keeps : Bool) (key : List ℕ) (courses : List (Course A)) (filled : Filled) (taken : Taken) (a b : Costs) (old linked told new : Whole)
    → can_bring old.cache filled.entry ≡ false → AllFit key (length old.cache.memory.pools) filled.waiters → Fits key (length old.cache.memory.pools) old.cache.memory → linked_at key old.cache.memory.pools ≡ None
    → taken.filled ≡ Some filled → AreCourses keeps key old.cache.now filled.waiters filled.entry courses
    → linked ≡ record old { cache = with_memory (early (all_stored old.cache.now filled.waiters filled.entry) old.cache.memory) old.cache }
    → Does (takes_in taken.part taken.nvm linked.cache) a linked told → Does (all_served_as filled.waiters courses None told.cache) b told new
    → length old.cache.memory.charges + 1 + (both a b).notes ≤ old.notes → IsStep (after_take taken old.cache) (Took taken.take) old new
bare-step keeps key courses filled taken a b old linked told new cannot all fits bare filled_is plan linked_is first second room =
    let c = old.cache in
    let early_cache = with_memory (early (all_stored c.now filled.waiters filled.entry) c.memory) c in
    let after = (takes_in taken.part taken.nvm early_cache).cache in
    let does = does-both (takes_in taken.part taken.nvm linked.cache) (all_served_as filled.waiters courses None) a b linked told new first second in
    let is = ap (λ (w : Whole). and_then (takes_in taken.part taken.nvm w.cache) (all_served_as filled.waiters courses None)) linked_is
    ∙ ap (behind taken.part) (by_plan.served-there keeps key filled.waiters filled.entry courses None after plan)
    ∙ filled-over key (length c.memory.pools) taken.part taken.nvm filled c cannot all fits bare
    ∙ ap (λ (f : Option Filled). and_then (takes_in taken.part taken.nvm c) (fill f)) (sym filled_is) in
    step_of taken _ (both a b) old linked new is (ap (λ (w : Whole). w.log) linked_is) (ap (λ (w : Whole). w.notes) linked_is) does room

-- what was found was linked first
pub brought-step : {A : Type 0} (keeps : Bool) (key : List ℕ) (courses : List (Course A)) (entry : FlashEntry) (waiters : List Waiter) (losses : List Loss) (taken : Taken) (standing : Option ℕ) (a b : Costs) (old linked told new : Whole)
    → can_link old.cache entry ≡ true → is_lost old.cache.memory.flash losses entry.key (length entry.value) ≡ false → ((m : Memory) → unmarked_by taken.part m ≡ unmarked_by (loss_notes losses) m)
    → taken.filled ≡ Some (record { entry = Some entry; waiters = waiters }) → AreCourses keeps key old.cache.now waiters (Some entry) courses
    → linked ≡ record old { cache = with_memory (brought_in entry old.cache.memory) old.cache }
    → Does (takes_in taken.part taken.nvm linked.cache) a linked told
    → Does (and_then (brought_by (old.cache.memory.made + 1) entry.pool entry.key (want_of entry) (all_marked_by old.cache.memory.flash losses (victims_of old.cache.memory entry.pool (want_of entry))) told.cache) (all_served_as waiters courses standing)) b told new
    → length old.cache.memory.charges + 1 + (both a b).notes ≤ old.notes → IsStep (after_take taken old.cache) (Took taken.take) old new
brought-step keeps key courses entry waiters losses taken standing a b old linked told new can apart same filled_is plan linked_is first second room =
    let c = old.cache in
    let victims = all_marked_by c.memory.flash losses (victims_of c.memory entry.pool (want_of entry)) in
    let brought = brought_by (c.memory.made + 1) entry.pool entry.key (want_of entry) victims in
    let then_served = λ (x : Cache). and_then (brought x) (all_served_as waiters courses standing) in
    let mid = (takes_in taken.part taken.nvm (with_memory (brought_in entry c.memory) c)).cache in
    let does = does-both (takes_in taken.part taken.nvm linked.cache) then_served a b linked told new first second in
    let served = by_plan.served-there keeps key waiters (Some entry) courses standing (brought mid).cache
    (subst (λ now. AreCourses keeps key now waiters (Some entry) courses) (sym (brought-now entry (c.memory.made + 1) (want_of entry) victims mid)) plan) in
    let is = ap (λ (w : Whole). and_then (takes_in taken.part taken.nvm w.cache) then_served) linked_is
    ∙ ap (λ (t : Told). behind taken.part (behind (brought mid).part t)) served
    ∙ filled-brought losses taken.part taken.nvm entry waiters standing c same can apart
    ∙ ap (λ (f : Option Filled). and_then (takes_in taken.part taken.nvm c) (fill f)) (sym filled_is) in
    step_of taken _ (both a b) old linked new is (ap (λ (w : Whole). w.log) linked_is) (ap (λ (w : Whole). w.notes) linked_is) does room
