-- Which call is refused, where and with what; and a step that is refused changes nothing.
use Rattle.std.specs.Prelude.{◌≡◌, ◌≢◌, ℕ, List, length, Option, Some, None, if◌then◌else◌}
use Rattle.hc_types.specs.declared.refusal.Refusal.{Refusal}
use Rattle.hc_types.specs.declared.refusal.Refusal.TheVariants.{ForeignHandle, Exists, UnknownCall, NotReady, UnknownJob}
use Rattle.hc_memory.specs.Item.{Handle}
use Rattle.hc_machine.specs.items.Allocating.{refusal_of}
use Rattle.hc_engines.specs.Engine.{IoResult, Awaits}
use Rattle.hc_engines.specs.pair.Held.{under_way}
use Rattle.hc_history.specs.Note.{Reply}
use Rattle.hc_machine.specs.Nvm.{Nvm, Job, job_at}
use Rattle.hc_machine.specs.Cache.{Owed, Cache, Moved, Refused, stays, owed_at}
use Rattle.hc_machine.specs.Evicting.{allocate}
use Rattle.hc_machine.specs.Calls.{is_known, discard, insert_or_replace, insert, find, remove, take_reply, tick}
use Rattle.hc_machine.specs.Workers.{writer_take, filler_take, reclaim, finish}
use Rattle.hc_laws.specs.Inserting.{has_value}

-- the step is refused so: it changes nothing, and tells nothing; or it isn't refused at all
abbrev pub IsRefused : Option Refusal → Cache → Moved → Type 0
IsRefused (Some refusal) cache moved = moved ≡ stays (Refused refusal) cache
IsRefused None cache moved = (refusal : Refusal) → moved.answer ≢ Refused refusal

-- ---- the refusals

abbrev pub handle_refusal : Handle → Cache → Option Refusal
handle_refusal handle cache = if is_known cache handle then None else Some ForeignHandle

abbrev pub insert_refusal : Handle → Cache → Option Refusal
insert_refusal handle cache = if has_value handle.key cache then Some Exists else handle_refusal handle cache

-- a call that waits for no reply, and one whose reply isn't there yet
abbrev pub reply_refusal : Option Owed → Option Refusal
reply_refusal None = Some UnknownCall
reply_refusal (Some owed) = not_ready owed.reply
  where
    not_ready : Option Reply → Option Refusal
    not_ready None = Some NotReady
    not_ready (Some reply) = None

-- a job waits for such a result
pub record WaitsFor (number : ℕ) (result : IoResult) (cache : Cache) : Type 0 where
  pub nvm : Nvm
  pub flash : cache.nvm ≡ Some nvm
  pub job : Job
  pub has_job : job_at number nvm.jobs ≡ Some job
  pub awaits : Awaits (under_way nvm.pair job.number) result

pub record Refusals (cache : Cache) : Type 0 where
  pub allocate : (pool : ℕ) (key value : List ℕ) (ttl : ℕ) → IsRefused (refusal_of cache.memory pool key (length value)) cache (allocate pool key value ttl cache)
  pub discard : (handle : Handle) → IsRefused (handle_refusal handle cache) cache (discard handle cache)
  pub insert_or_replace : (client : ℕ) (handle : Handle) → IsRefused (handle_refusal handle cache) cache (insert_or_replace client handle cache)
  pub insert : (client : ℕ) (handle : Handle) → IsRefused (insert_refusal handle cache) cache (insert client handle cache)
  pub find : (client : ℕ) (key : List ℕ) → IsRefused None cache (find client key cache)
  pub remove : (client : ℕ) (key : List ℕ) → IsRefused None cache (remove client key cache)
  pub take_reply : (call : ℕ) → IsRefused (reply_refusal (owed_at call cache.owed)) cache (take_reply call cache)
  pub tick : (moment : ℕ) → IsRefused None cache (tick moment cache)
  pub writer_take : IsRefused None cache (writer_take cache)
  pub filler_take : IsRefused None cache (filler_take cache)
  pub reclaim : IsRefused None cache (reclaim cache)
  pub awaited : (number : ℕ) (result : IoResult) → WaitsFor number result cache → IsRefused None cache (finish number result cache)
  pub unawaited : (number : ℕ) (result : IoResult) → ¬ WaitsFor number result cache → IsRefused (Some UnknownJob) cache (finish number result cache)

abbrev pub RefusedChangesNothing : Type 0
RefusedChangesNothing = (cache : Cache) → Refusals cache
