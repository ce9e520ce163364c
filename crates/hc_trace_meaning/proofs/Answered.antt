-- Each line is answered: none by a handle.
use Rattle.std.proofs.Common.{Bool, true, false, List, Option, None, Some, is_some, IsSome, ℕ, refl, length, if◌then◌else◌}
use Rattle.hc_types.specs.declared.refusal.Refusal.{Refusal}
use Rattle.hc_engines.specs.Engine.{IoResult, Order}
use Rattle.hc_memory.specs.Item.{Handle}
use Rattle.hc_machine.specs.items.Allocating.{refusal_of}
use Rattle.hc_history.specs.Note.{Reply, Find}
use Rattle.hc_machine.specs.Nvm.{Nvm}
use Rattle.hc_machine.specs.Takes as flash
use Rattle.hc_machine.specs.Cache as machine
use Rattle.hc_machine.specs.Cache.{Owed, Cache, Moved, Refused, Opened, Discarded, Replied, Waits, Moment, Took, Reclaimed, owed_at}
use Rattle.hc_machine.specs.Evicting.{allocate_by}
use Rattle.hc_machine.specs.Calls as calls
use Rattle.hc_machine.specs.Calls.{must_wait, is_known, in_memory}
use Rattle.hc_machine.specs.Waiting.{live}
use Rattle.hc_machine.specs.Workers as workers
use Rattle.hc_machine.specs.World as world
use Rattle.hc_machine.specs.World.{World, Line, Said, step, given_up, then_inserted, inserted, put_new, order_in, result_at, io_of, done_of}
use Rattle.hc_trace_meaning.specs.Actions.{Deed, Acts, Barred, Rests, deed_of, done, answer_of, said_answer}
use Rattle.hc_trace_meaning.specs.Promise.{EachLineIsAnswered}

abbrev IsAnswered : Moved → Type 0
IsAnswered moved = IsSome (answer_of moved.answer)

either : (b : Bool) (m n : Moved) → IsAnswered m → IsAnswered n → IsAnswered (if b then m else n)
either true m n h k = h
either false m n h k = k

-- ---- clients

replaced : (client : ℕ) (handle : Handle) (cache : Cache) → IsAnswered (calls.insert_or_replace client handle cache)
replaced client handle cache = either (is_known cache handle) _ _ refl refl

added : (client : ℕ) (handle : Handle) (cache : Cache) → IsAnswered (calls.add client handle cache)
added client handle cache = either (must_wait cache handle.key) _ _ refl refl

put : (client : ℕ) (handle : Handle) (cache : Cache) → IsAnswered (calls.insert client handle cache)
put client handle cache =
    either (is_some (live cache.now (in_memory cache handle.key))) _ _ refl (either (is_known cache handle) _ _ (added client handle cache) refl)

given : (handle : Handle) (answer : machine.Answer) (moved : Moved) → IsAnswered moved → IsAnswered (given_up handle answer moved)
given handle (Refused refusal) moved h = refl
given handle (Opened opened) moved h = h
given handle Discarded moved h = h
given handle (Replied reply) moved h = h
given handle (Waits call) moved h = h
given handle (Moment now) moved h = h
given handle (Took take) moved h = h
given handle (Reclaimed region) moved h = h

put-new : (handle : Handle) (cache : Cache) → IsAnswered (put_new handle cache)
put-new handle cache = given handle (calls.insert 0 handle cache).answer (calls.insert 0 handle cache) (put 0 handle cache)

opened-then : (insert : Handle → Cache → Moved) → ((handle : Handle) (cache : Cache) → IsAnswered (insert handle cache)) → (refused : Option Refusal) (pool : ℕ) (key value : List ℕ) (ttl : ℕ) (cache : Cache) → IsAnswered (inserted insert (allocate_by refused pool key value ttl cache))
opened-then insert h (Some refusal) pool key value ttl cache = refl
opened-then insert h None pool key value ttl cache = h _ _

found : (key : List ℕ) (cache : Cache) → IsAnswered (calls.find_by key cache)
found key cache = either (must_wait cache key) _ _ refl refl

replied : (call : ℕ) (reply : Option Reply) (cache : Cache) → IsAnswered (calls.take_of (Some (record { call = call; reply = reply })) cache)
replied call None cache = refl
replied call (Some reply) cache = refl

owed : (o : Option Owed) (cache : Cache) → IsAnswered (calls.take_of o cache)
owed None cache = refl
owed (Some o) cache = replied o.call o.reply cache

-- ---- workers and the device

took : (nvm : Option Nvm) (take : Nvm → flash.Taken) (cache : Cache) → IsAnswered (workers.take_on nvm take cache)
took None take cache = refl
took (Some nvm) take cache = refl

reclaimed : (nvm : Option Nvm) (cache : Cache) → IsAnswered (workers.reclaim_on nvm cache)
reclaimed None cache = refl
reclaimed (Some nvm) cache = refl

after-finish : (t : Option flash.Taken) (cache : Cache) → IsAnswered (workers.after_finish t cache)
after-finish None cache = refl
after-finish (Some t) cache = refl

finished : (nvm : Option Nvm) (job : ℕ) (result : IoResult) (cache : Cache) → IsAnswered (workers.finish_on nvm job result cache)
finished None job result cache = refl
finished (Some nvm) job result cache = after-finish (flash.finish job result nvm) cache

abbrev IsTold : Said → Type 0
IsTold said = IsSome (said_answer said)

made : (w : World) (job : ℕ) (fails : Bool) (order : Option Order) (result : Option IoResult) → IsTold (io_of w job fails order result).said
made w job fails None result = refl
made w job fails (Some order) None = refl
made w job fails (Some order) (Some result) = refl

handed : (w : World) (job : ℕ) (result : Option IoResult) → IsTold (done_of w job result).said
handed w job None = refl
handed w job (Some result) = finished w.cache.nvm job result w.cache

-- ---- lines

line-answered : (line : Line) (w : World) → IsTold (step line w).said
line-answered (world.Set pool key value ttl) w = opened-then (calls.insert_or_replace 0) (replaced 0) (refusal_of w.cache.memory pool key (length value)) pool key value ttl w.cache
line-answered (world.Add pool key value ttl) w = opened-then put_new put-new (refusal_of w.cache.memory pool key (length value)) pool key value ttl w.cache
line-answered (world.Get key) w = found key (calls.begin 0 (Find key) w.cache).cache
line-answered (world.Del key) w = refl
line-answered (world.At moment) w = refl
line-answered world.Writer w = took w.cache.nvm flash.writer_take w.cache
line-answered world.Filler w = took w.cache.nvm flash.filler_take w.cache
line-answered world.Reclaim w = reclaimed w.cache.nvm w.cache
line-answered (world.Io job fails) w = made w job fails (order_in w.cache.nvm job) (result_at job w.results)
line-answered (world.Done job) w = handed w job (result_at job w.results)
line-answered (world.Reply call) w = owed (owed_at call w.cache.owed) w.cache

deed-answered : (deed : Deed) (w : World) → IsSome (done deed w).answer
deed-answered (Acts line) w = line-answered line w
deed-answered (Barred refusal) w = refl
deed-answered Rests w = refl

pub each_line_is_answered : EachLineIsAnswered
each_line_is_answered w action = deed-answered (deed_of action) w
