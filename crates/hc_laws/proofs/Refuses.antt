-- What is refused changes nothing.
use Rattle.std.proofs.Common.{◌≡◌, ◌≢◌, ℕ, ◌+◌, Bool, true, false, List, length, Option, Some, None, refl, ap, sym, ◌∙◌, subst}
use Rattle.std.specs.Prelude.{if◌then◌else◌, is_some, option_map}
use Rattle.hc_types.specs.declared.refusal.Refusal.{Refusal}
use Rattle.hc_types.specs.declared.refusal.Refusal.TheVariants.{ForeignHandle, Exists, UnknownJob}
use Rattle.hc_memory.specs.Item.{Handle}
use Rattle.hc_machine.specs.items.Allocating.{refusal_of}
use Rattle.hc_engines.specs.Engine.{IoResult}
use Rattle.hc_engines.specs.pair.Pair as pairs
use Rattle.hc_engines.specs.pair.Pair.{Pair, resume}
use Rattle.hc_history.specs.Note.{Insert, Add, Reply, Stored}
use Rattle.hc_machine.specs.Nvm.{Nvm, ToFind, ToAdd, Job, job_at}
use Rattle.hc_machine.specs.Takes as takes
use Rattle.hc_machine.specs.Takes.{Taken, finish_job, resumed}
use Rattle.hc_machine.specs.Cache.{Owed, Cache, Moved, Refused, Discarded, Replied, Waits, and_then, answers, stays, owed_at}
use Rattle.hc_machine.specs.Evicting.{allocate_by}
use Rattle.hc_machine.specs.Waiting.{live, find_reply, free}
use Rattle.hc_machine.specs.Calls.{begin, wait_for, is_known, store, in_memory, must_wait, used, insert, find_now, find, take_of}
use Rattle.hc_machine.specs.Workers.{take_on, reclaim_on, finish_on, after_finish, finish}
use Rattle.hc_engines.proofs.pair.Passing.{resume_awaits}
use Rattle.hc_laws.specs.Refusing.{IsRefused, handle_refusal, insert_refusal, reply_refusal, WaitsFor, RefusedChangesNothing}
use Rattle.hc_laws.proofs.Inserts.{live_is}

module _ (cache : Cache) where
  allocate_by_refusal : (o : Option Refusal) (pool : ℕ) (key value : List ℕ) (ttl : ℕ) → IsRefused o cache (allocate_by o pool key value ttl cache)
  allocate_by_refusal None pool key value ttl = λ refusal h. cc
  allocate_by_refusal (Some refusal) pool key value ttl = refl

  -- what is refused where the handle isn't known
  handed : (handle : Handle) (moved : Moved) → ((refusal : Refusal) → moved.answer ≢ Refused refusal) → (t : Bool) → IsRefused (if t then None else Some ForeignHandle) cache (if t then moved else stays (Refused ForeignHandle) cache)
  handed handle moved h true = h
  handed handle moved h false = refl

  never_either : (t : Bool) (one two : Moved) (refusal : Refusal) → one.answer ≢ Refused refusal → two.answer ≢ Refused refusal → (if t then one else two).answer ≢ Refused refusal
  never_either true one two refusal p q = p
  never_either false one two refusal p q = q

  abbrev added_waits : ℕ → Handle → Moved
  added_waits client handle = answers (Waits (cache.calls + 1)) (and_then (begin client (Add handle.key handle.value handle.expiry) cache) (wait_for handle.key (ToAdd handle)))

  abbrev added_stores : ℕ → Handle → Moved
  added_stores client handle = answers (Replied Stored) (and_then (begin client (Add handle.key handle.value handle.expiry) cache) (store handle))

  abbrev added : ℕ → Handle → Moved
  added client handle = if must_wait cache handle.key then added_waits client handle else added_stores client handle

  added_never : (client : ℕ) (handle : Handle) (refusal : Refusal) → (added client handle).answer ≢ Refused refusal
  added_never client handle refusal = never_either (must_wait cache handle.key) (added_waits client handle) (added_stores client handle) refusal (λ h. cc) (λ h. cc)

  insert_if : (client : ℕ) (handle : Handle) (t : Bool) → IsRefused (if t then Some Exists else handle_refusal handle cache) cache (if t then stays (Refused Exists) cache else (if is_known cache handle then added client handle else stays (Refused ForeignHandle) cache))
  insert_if client handle true = refl
  insert_if client handle false = handed handle (added client handle) (added_never client handle) (is_known cache handle)

  insert_by : (client : ℕ) (handle : Handle) → IsRefused (insert_refusal handle cache) cache (insert client handle cache)
  insert_by client handle = subst (λ (b : Bool). IsRefused (if b then Some Exists else handle_refusal handle cache) cache (insert client handle cache)) (live_is handle.key cache) (insert_if client handle (is_some (live cache.now (in_memory cache handle.key))))

  abbrev begun : Cache
  begun = record cache { calls = cache.calls + 1 }

  find_never : (client : ℕ) (key : List ℕ) → IsRefused None cache (find client key cache)
  find_never client key refusal = never_either (must_wait begun key) (answers (Waits (cache.calls + 1)) (wait_for key ToFind begun)) (find_now (find_reply (live cache.now (in_memory begun key))) (used key begun)) refusal (λ h. cc) (λ h. cc)

  reply_by : (o : Option Owed) → IsRefused (reply_refusal o) cache (take_of o cache)
  reply_by None = refl
  reply_by (Some owed) = by owed.call owed.reply
    where
      by : (call : ℕ) (reply : Option Reply) → IsRefused (reply_refusal (Some (record { call = call; reply = reply }))) cache (take_of (Some (record { call = call; reply = reply })) cache)
      by call None = refl
      by call (Some reply) = λ refusal h. cc

  take_never : (o : Option Nvm) (take : Nvm → Taken) → IsRefused None cache (take_on o take cache)
  take_never None take refusal h = cc
  take_never (Some nvm) take refusal h = cc

  reclaim_never : (o : Option Nvm) → IsRefused None cache (reclaim_on o cache)
  reclaim_never None refusal h = cc
  reclaim_never (Some nvm) refusal h = cc

  -- ---- a result that is handed in

  pub finish_is : (number : ℕ) (result : IoResult) (nvm : Nvm) (job : Job) (o : Option pairs.Moved) → cache.nvm ≡ Some nvm → job_at number nvm.jobs ≡ Some job → resume job.number result nvm.pair ≡ o → finish number result cache ≡ after_finish (option_map (resumed job result nvm) o) cache
  finish_is number result nvm job o n j r = (λ i. finish_on (n i) number result cache) ∙ (λ i. after_finish (finish_job (j i) result nvm) cache) ∙ (λ i. after_finish (option_map (resumed job result nvm) (r i)) cache)

  awaited : (number : ℕ) (result : IoResult) → WaitsFor number result cache → IsRefused None cache (finish number result cache)
  awaited number result w = by (resume w.job.number result w.nvm.pair) refl
    where
      by : (o : Option pairs.Moved) → resume w.job.number result w.nvm.pair ≡ o → IsRefused None cache (finish number result cache)
      by None r refusal h = (resume_awaits w.nvm.pair w.job.number result).0 r w.awaits
      by (Some moved) r refusal h = let gone = sym (ap (λ (m : Moved). m.answer) (finish_is number result w.nvm w.job (Some moved) w.flash w.has_job r)) ∙ h in cc

  module _ (number : ℕ) (result : IoResult) (none : ¬ WaitsFor number result cache) where
    by_resume : (nvm : Nvm) (job : Job) (o : Option pairs.Moved) → cache.nvm ≡ Some nvm → job_at number nvm.jobs ≡ Some job → resume job.number result nvm.pair ≡ o → finish number result cache ≡ stays (Refused UnknownJob) cache
    by_resume nvm job None n j r = finish_is number result nvm job None n j r
    by_resume nvm job (Some moved) n j r = absurd (none (record { nvm = nvm; flash = n; job = job; has_job = j; awaits = (resume_awaits nvm.pair job.number result).1 moved r }))

    by_job : (nvm : Nvm) (o : Option Job) → cache.nvm ≡ Some nvm → job_at number nvm.jobs ≡ o → finish number result cache ≡ stays (Refused UnknownJob) cache
    by_job nvm None n j = (λ i. finish_on (n i) number result cache) ∙ (λ i. after_finish (finish_job (j i) result nvm) cache)
    by_job nvm (Some job) n j = by_resume nvm job (resume job.number result nvm.pair) n j refl

    unawaited : (o : Option Nvm) → cache.nvm ≡ o → finish number result cache ≡ stays (Refused UnknownJob) cache
    unawaited None n = λ i. finish_on (n i) number result cache
    unawaited (Some nvm) n = by_job nvm (job_at number nvm.jobs) n refl

pub refuses : RefusedChangesNothing
refuses cache = record {
  allocate = λ pool key value ttl. allocate_by_refusal cache (refusal_of cache.memory pool key (length value)) pool key value ttl;
  discard = λ handle. handed cache handle (answers Discarded (free handle.number cache)) (λ refusal h. cc) (is_known cache handle);
  insert_or_replace = λ client handle. handed cache handle (answers (Replied Stored) (and_then (begin client (Insert handle.key handle.value handle.expiry) cache) (store handle))) (λ refusal h. cc) (is_known cache handle);
  insert = insert_by cache;
  find = find_never cache;
  remove = λ client key refusal h. cc;
  take_reply = λ call. reply_by cache (owed_at call cache.owed);
  tick = λ moment refusal h. cc;
  writer_take = take_never cache cache.nvm takes.writer_take;
  filler_take = take_never cache cache.nvm takes.filler_take;
  reclaim = reclaim_never cache cache.nvm;
  awaited = awaited cache;
  unawaited = λ number result none. unawaited cache number result none cache.nvm refl;
}
