-- Each step keeps what holds of a cache.
use Rattle.std.proofs.Common.{◌≡◌, ◌⊎◌, inl, inr, ◌≤◌, ℕ, Bool, true, false, not, ◌&&◌, List, [], length, None, refl, sym, subst, arith}
use Rattle.std.specs.Prelude.{Result, Ok, Err, IfOk, OnOk, OnErr, IfErr}
use Rattle.hc_types.specs.declared.refusal.Refusal.{Refusal}
use Rattle.hc_types.specs.declared.refusal.Refusal.TheVariants.{NoMemory}
use Rattle.hc_memory.specs.Item.{Handle}
use Rattle.hc_history.specs.Note.{Note, Stored}
use Rattle.hc_types.specs.Config.{Config}
use Rattle.hc_types.specs.Limits.{first_wrong}
use Rattle.hc_history.specs.Told.{Heard, Nothing, Log, Counts, Sums, IfLog, is_log, told_more}
use Rattle.hc_machine.specs.Cache.{Cache, Moved, Answer, Refused, Opened, Discarded, Replied, Waits, Moment, Took, Reclaimed, new_cache}
use Rattle.hc_machine.specs.Evicting.{allocate}
use Rattle.hc_machine.specs.Calls.{insert_or_replace, discard}
use Rattle.hc_machine.specs.World.{then_inserted, inserted}
use Rattle.hc_invariant.specs.Structure.{Structured}
use Rattle.hc_theorem.specs.runs.Lock.{Guarded}
use Rattle.hc_machine.specs.Call.{CacheCall, Allocates, Inserts, Adds, Discards, Finds, Removes, Replies, Ticks, Writes, Fills, Reclaims, Finishes, act}
use Rattle.hc_proof.proofs.structure.Calls as clients
use Rattle.hc_proof.proofs.structure.Workers as workers
use Rattle.hc_state.specs.wait.Begin.{OwesBegun}
use Rattle.hc_state.specs.set.Short.{set_step, give_up_step, is_awaited, is_brief}
use Rattle.hc_state.specs.Whole.{Whole, Stays, IsStep, IsUnchanged}
use Rattle.hc_state.proofs.Begun as calls
use Rattle.hc_state.proofs.Unchanged.{stays-unchanged}
use Rattle.hc_core.specs.Arguments.{CallFits}
use Rattle.hc_core.specs.Holds.{AreShort, Holds}
use Rattle.hc_core.proofs.Short.{stays-short}
use Rattle.hc_core.proofs.Guarding.{guarded-as, new-guarded, stays-guarded}

-- ---- by the kind of the step

structured : (event : CacheCall) (cache : Cache) → Structured cache → Structured (act event cache).cache
structured (Allocates pool key value ttl) cache h = clients.allocates cache pool key value ttl h
structured (Inserts client handle) cache h = clients.inserts cache client handle h
structured (Adds client handle) cache h = clients.adds_keep cache client handle h
structured (Discards handle) cache h = clients.discards cache handle h
structured (Finds client key) cache h = clients.finds cache client key h
structured (Removes client key) cache h = clients.removes cache client key h
structured (Replies call) cache h = clients.replies cache call h
structured (Ticks moment) cache h = clients.ticks cache moment h
structured Writes cache h = workers.writes cache h
structured Fills cache h = workers.fills cache h
structured Reclaims cache h = workers.reclaims cache h
structured (Finishes number result) cache h = workers.finishes cache number result h

begun : (event : CacheCall) (cache : Cache) → OwesBegun cache → OwesBegun (act event cache).cache
begun (Allocates pool key value ttl) cache h = calls.allocate-begun pool key value ttl cache h
begun (Inserts client handle) cache h = calls.insert-or-replace-begun client handle cache h
begun (Adds client handle) cache h = calls.insert-begun client handle cache h
begun (Discards handle) cache h = calls.discard-begun handle cache h
begun (Finds client key) cache h = calls.find-begun client key cache h
begun (Removes client key) cache h = calls.remove-begun client key cache h
begun (Replies call) cache h = calls.reply-begun call cache h
begun (Ticks moment) cache h = calls.tick-begun moment cache h
begun Writes cache h = calls.writer-begun cache h
begun Fills cache h = calls.filler-begun cache h
begun Reclaims cache h = calls.reclaim-begun cache h
begun (Finishes number result) cache h = calls.finish-begun number result cache h

-- ---- what holds of a cache

pub new-holds : (config : Config) (heard : Heard) (whole : Whole) → first_wrong config ≡ None → IfLog heard (λ log. log ≡ []) → whole.cache ≡ new_cache config → whole.log ≡ heard → Holds whole
new-holds config heard whole right empty is log = record {
  structured = subst Structured (sym is) (workers.begins config);
  begun = subst OwesBegun (sym is) tt;
  ready = subst (λ (c : Cache). length c.memory.charges ≤ whole.notes) (sym is) (omega arith);
  short = subst (λ (c : Cache). AreShort c.memory.charges) (sym is) refl;
  guarded = guarded-as heard whole.log (new_cache config) whole.cache log is (new-guarded config heard right empty);
}

step_holds : (event : CacheCall) (answer : Answer) (old new : Whole) → CallFits event → Holds old → IsStep (act event old.cache) answer old new → Holds new
step_holds event answer old new fits h step =
    let moved = act event old.cache in
    record {
      structured = subst Structured (sym step.cache) (structured event old.cache h.structured);
      begun = subst OwesBegun (sym step.cache) (begun event old.cache h.begun);
      ready = step.ready;
      short = subst (λ (c : Cache). AreShort c.memory.charges) (sym step.cache) (stays-short event old.cache h.short);
      guarded = guarded-as (told_more old.log moved.part) new.log moved.cache new.cache step.log step.cache (stays-guarded event old.log old.cache fits h.short h.guarded);
    }

unchanged_holds : (old new : Whole) → Holds old → IsUnchanged old new → Holds new
unchanged_holds old new h same = record {
  structured = subst Structured (sym same.cache) h.structured;
  begun = subst OwesBegun (sym same.cache) h.begun;
  ready = subst (λ (c : Cache). length c.memory.charges ≤ new.notes) (sym same.cache) (omega (arith, h.ready, same.notes));
  short = subst (λ (c : Cache). AreShort c.memory.charges) (sym same.cache) h.short;
  guarded = guarded-as old.log new.log old.cache new.cache same.log same.cache h.guarded;
}

pub stays_holds : (old new : Whole) → Holds old → Stays old new → Holds new
stays_holds old new h stays = unchanged_holds old new h (stays-unchanged old new stays)

-- ---- calls

module _ {T E : Type 0} (event : CacheCall) (old new : Whole) (fits : CallFits event) (h : Holds old) where
  pub call-holds : (answer : T → Answer) (result : Result T E) → IfOk result (λ x. IsStep (act event old.cache) (answer x) old new) → OnErr result (IsUnchanged old new) → Holds new
  call-holds answer (Ok x) ok err = step_holds event (answer x) old new fits h ok
  call-holds answer (Err e) ok err = unchanged_holds old new h err

  -- where a refusal leaves as much room of each kind
  pub calm-holds : (answer : T → Answer) (result : Result T E) → IfOk result (λ x. IsStep (act event old.cache) (answer x) old new) → OnErr result (Stays old new) → Holds new
  calm-holds answer (Ok x) ok err = step_holds event (answer x) old new fits h ok
  calm-holds answer (Err e) ok err = unchanged_holds old new h (stays-unchanged old new err)

  -- and where the answer tells no more
  pub done-holds : (answer : Answer) (result : Result T E) → OnOk result (IsStep (act event old.cache) answer old new) → OnErr result (Stays old new) → Holds new
  done-holds answer (Ok x) ok err = step_holds event answer old new fits h ok
  done-holds answer (Err e) ok err = unchanged_holds old new h (stays-unchanged old new err)

-- ---- an item is allocated, and something is done with its handle, in one step

module _ (P : Cache → Type 0) (insert : Handle → Cache → Moved) (opened : Moved) (keeps : (handle : Handle) (cache : Cache) → P cache → P (insert handle cache).cache) (first : P opened.cache) where
  both_keep : (answer : Answer) → P (then_inserted insert answer opened).cache
  both_keep (Refused refusal) = first
  both_keep (Opened handle) = keeps handle opened.cache first
  both_keep Discarded = first
  both_keep (Replied reply) = first
  both_keep (Waits call) = first
  both_keep (Moment now) = first
  both_keep (Took take) = first
  both_keep (Reclaimed region) = first

-- a log that isn't kept has nothing to be legal
unheard : (heard : Heard) (part : List Note) (P : List Note → Type 0) → is_log heard ≡ false → IfLog (told_more heard part) P
unheard Nothing part P e = tt
unheard (Log log) part P e = absurd cc
unheard (Counts counts losses) part P e = tt
unheard (Sums counts losses) part P e = tt

quiet_by : (awaited kept : Bool) → (not awaited && not kept) ≡ true → kept ≡ false
quiet_by true kept e = absurd cc
quiet_by false true e = absurd cc
quiet_by false false e = refl

module _ (pool : ℕ) (key value : List ℕ) (ttl : ℕ) (old new : Whole) (brief : is_brief key old.log old.cache ≡ true) (h : Holds old) where
  inserted_holds : (insert : Handle → Cache → Moved) (answer : Answer) → ((handle : Handle) (cache : Cache) → Structured cache → Structured (insert handle cache).cache) → ((handle : Handle) (cache : Cache) → OwesBegun cache → OwesBegun (insert handle cache).cache)
      → ((handle : Handle) (cache : Cache) → AreShort cache.memory.charges → AreShort (insert handle cache).cache.memory.charges) → IsStep (inserted insert (allocate pool key value ttl old.cache)) answer old new → Holds new
  inserted_holds insert answer s b a step =
      let opened = allocate pool key value ttl old.cache in
      let moved = inserted insert opened in
      record {
        structured = subst Structured (sym step.cache) (both_keep Structured insert opened s (clients.allocates old.cache pool key value ttl h.structured) opened.answer);
        begun = subst OwesBegun (sym step.cache) (both_keep OwesBegun insert opened b (calls.allocate-begun pool key value ttl old.cache h.begun) opened.answer);
        ready = step.ready;
        short = subst (λ (c : Cache). AreShort c.memory.charges) (sym step.cache) (both_keep (λ (c : Cache). AreShort c.memory.charges) insert opened a (stays-short (Allocates pool key value ttl) old.cache h.short) opened.answer);
        guarded = subst (λ (l : Heard). IfLog l (λ log. Guarded new.cache.config log new.cache)) (sym step.log) (unheard old.log moved.part (λ log. Guarded new.cache.config log new.cache) (quiet_by (is_awaited old.cache key) (is_log old.log) brief));
      }

  -- a value that is stored in one step, or given up
  pub set-holds : {T : Type 0} (result : Result T Refusal) → OnOk result (IsStep (set_step pool key value ttl old.cache) (Replied Stored) old new)
      → IfErr result (λ refusal. Stays old new ⊎ (IsStep (give_up_step pool key value ttl old.cache) Discarded old new × (refusal ≡ NoMemory))) → Holds new
  set-holds (Ok x) ok err =
      inserted_holds (insert_or_replace 0) (Replied Stored) (λ handle cache s. clients.inserts cache 0 handle s) (λ handle cache b. calls.insert-or-replace-begun 0 handle cache b) (λ handle cache a. stays-short (Inserts 0 handle) cache a) ok
  set-holds (Err refusal) ok (inl stays) = unchanged_holds old new h (stays-unchanged old new stays)
  set-holds (Err refusal) ok (inr given) =
      inserted_holds discard Discarded (λ handle cache s. clients.discards cache handle s) (λ handle cache b. calls.discard-begun handle cache b) (λ handle cache a. stays-short (Discards handle) cache a) given.0
