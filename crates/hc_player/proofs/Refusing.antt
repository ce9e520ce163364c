-- A step that is refused changes nothing.
use Rattle.std.proofs.Common.{◌≡◌, ◌≢◌, ℕ, Bool, true, false, List, length, Option, Some, None, refl, ap, sym, ◌∙◌, ◌==◌, nat_lt, cond}
use Rattle.hc_types.specs.Limits.{key_refusal}
use Rattle.hc_types.specs.declared.refusal.Refusal.{Refusal}
use Rattle.hc_types.specs.declared.refusal.Refusal.TheVariants.{UnknownJob, UnknownCall, NotReady, Exists, KeyEmpty, KeyTooLong}
use Rattle.hc_engines.specs.Engine.{IoResult}
use Rattle.hc_history.specs.Note.{Reply}
use Rattle.hc_machine.specs.items.Allocating.{refusal_of}
use Rattle.hc_machine.specs.Nvm.{Nvm}
use Rattle.hc_machine.specs.Takes as flash
use Rattle.hc_machine.specs.Takes.{Taken}
use Rattle.hc_machine.specs.Cache.{Cache, Moved, Answer, Refused, Opened, Discarded, Replied, Waits, Moment, Took, Reclaimed, Owed, stays, owed_at}
use Rattle.hc_machine.specs.Evicting.{allocate, allocate_by}
use Rattle.hc_machine.specs.Calls as calls
use Rattle.hc_machine.specs.Workers as workers
use Rattle.hc_core.specs.Answers.{refusal_in}

-- where the step is refused, nothing happens
abbrev pub StaysRefused : Cache → Moved → Type 0
StaysRefused cache moved = (refusal : Refusal) → moved.answer ≡ Refused refusal → moved ≡ stays (Refused refusal) cache

is_refused : (cache : Cache) (why : Refusal) → StaysRefused cache (stays (Refused why) cache)
is_refused cache why refusal h = ap (λ (a : Answer). stays a cache) h

allocate_stays_by : (pool : ℕ) (key value : List ℕ) (ttl : ℕ) (cache : Cache) (r : Option Refusal) → StaysRefused cache (allocate_by r pool key value ttl cache)
allocate_stays_by pool key value ttl cache None refusal h = absurd cc
allocate_stays_by pool key value ttl cache (Some why) refusal h = is_refused cache why refusal h

pub allocate-stays : (pool : ℕ) (key value : List ℕ) (ttl : ℕ) (cache : Cache) → StaysRefused cache (allocate pool key value ttl cache)
allocate-stays pool key value ttl cache = allocate_stays_by pool key value ttl cache (refusal_of cache.memory pool key (length value))

owed_stays : (call : ℕ) (reply : Option Reply) (cache : Cache) → StaysRefused cache (calls.take_of (Some (record { call = call; reply = reply })) cache)
owed_stays call None cache refusal h = is_refused cache NotReady refusal h
owed_stays call (Some reply) cache refusal h = absurd cc

taken_stays : (o : Option Owed) (cache : Cache) → StaysRefused cache (calls.take_of o cache)
taken_stays None cache refusal h = is_refused cache UnknownCall refusal h
taken_stays (Some owed) cache refusal h = owed_stays owed.call owed.reply cache refusal h

pub reply-stays : (call : ℕ) (cache : Cache) → StaysRefused cache (calls.take_reply call cache)
reply-stays call cache = taken_stays (owed_at call cache.owed) cache

finished_stays : (o : Option Taken) (cache : Cache) → StaysRefused cache (workers.after_finish o cache)
finished_stays None cache refusal h = is_refused cache UnknownJob refusal h
finished_stays (Some taken) cache refusal h = absurd cc

finish_stays_on : (nvm : Option Nvm) (number : ℕ) (result : IoResult) (cache : Cache) → StaysRefused cache (workers.finish_on nvm number result cache)
finish_stays_on None number result cache = is_refused cache UnknownJob
finish_stays_on (Some nvm) number result cache = finished_stays (flash.finish number result nvm) cache

pub finish-stays : (number : ℕ) (result : IoResult) (cache : Cache) → StaysRefused cache (workers.finish number result cache)
finish-stays number result cache = finish_stays_on cache.nvm number result cache

-- the answer is that refusal
pub refused-is : (answer : Answer) (refusal : Refusal) → refusal_in answer ≡ Some refusal → answer ≡ Refused refusal
refused-is (Refused why) refusal h = ap (λ (o : Option Refusal). Refused (or_else o)) h
  where
    or_else : Option Refusal → Refusal
    or_else None = why
    or_else (Some r) = r
refused-is (Opened handle) refusal h = absurd cc
refused-is Discarded refusal h = absurd cc
refused-is (Replied reply) refusal h = absurd cc
refused-is (Waits call) refusal h = absurd cc
refused-is (Moment now) refusal h = absurd cc
refused-is (Took take) refusal h = absurd cc
refused-is (Reclaimed region) refusal h = absurd cc

-- no key is refused since it is there
bars_not : (empty long : Bool) → cond empty (Some KeyEmpty) (cond long (Some KeyTooLong) None) ≢ Some Exists
bars_not true long h = absurd cc
bars_not false true h = absurd cc
bars_not false false h = absurd cc

pub never-exists : (key : List ℕ) → key_refusal key ≢ Some Exists
never-exists key = bars_not (length key == 0) (nat_lt 255 (length key))
