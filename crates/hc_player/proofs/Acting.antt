-- A line does what the cache and the device do for it.
use Rattle.std.proofs.Common.{◌≡◌, ◌≢◌, ◌⊎◌, inl, inr, ℕ, ◌==◌, Bool, true, false, List, [], Option, Some, None, refl, sym, ap, subst, ◌∙◌}
use Rattle.std.specs.Prelude.{if◌then◌else◌, is_some}
use Rattle.hc_types.specs.Limits.{key_refusal}
use Rattle.hc_types.specs.declared.refusal.Refusal.{Refusal}
use Rattle.hc_types.specs.declared.refusal.Refusal.TheVariants.{NoMemory}
use Rattle.hc_engines.specs.Engine.{Order, IoResult, pages_after}
use Rattle.hc_flash.specs.Devices.{Memory, held_by}
use Rattle.hc_history.specs.Told.{told_more}
use Rattle.hc_history.proofs.Telling.{told-nothing}
use Rattle.hc_trace_text.specs.Steps as steps
use Rattle.hc_trace_text.specs.Steps.{Io, Finish, Answer}
use Rattle.hc_memory.specs.Item.{Handle}
use Rattle.hc_machine.specs.Cache as machine
use Rattle.hc_machine.specs.Cache.{Cache, Moved, stays}
use Rattle.hc_machine.specs.Evicting.{allocate}
use Rattle.hc_machine.specs.Workers as workers
use Rattle.hc_machine.specs.World as world
use Rattle.hc_machine.specs.World.{World, Line, Result, by_call, inserted, step, made, io_of, done_of, result_of, order_in, result_at, without_result}
use Rattle.hc_trace_meaning.specs.Actions as replayed
use Rattle.hc_trace_meaning.specs.Actions.{Action, Deed, Serve, Restart, unless, deed_of, done, by_step, act, answer_of, io_answer, restart_answer}
use Rattle.hc_state.specs.Resting.{is_at_rest}
use Rattle.hc_core.specs.Logged.{Logged, IsCall}
use Rattle.hc_core.specs.Answers.{refusal_in}
use Rattle.hc_player.specs.Alike.{Alike}
use Rattle.hc_player.specs.Devices.{Comes}
use Rattle.hc_player.specs.Playing.{Playing, world_of, Acts, Calls}
use Rattle.hc_player.proofs.Resulting.{result-gone}
use Rattle.hc_player.proofs.Refusing.{StaysRefused, allocate-stays, refused-is}

-- ---- any line

-- the line comes to this
acts_by : {action : Action} {answer : Answer} {old new : Playing} (moved : replayed.Moved) → act action (world_of old) ≡ moved → Alike (world_of new) moved.world → moved.answer ≡ Some answer → new.log ≡ told_more old.log moved.notes → Acts action answer old new
acts_by {action} {answer} {old} {new} moved is like answered log = record {
  world = subst (λ (m : replayed.Moved). Alike (world_of new) m.world) (sym is) like;
  answered = ap (λ (m : replayed.Moved). m.answer) is ∙ answered;
  log = log ∙ ap (λ (m : replayed.Moved). told_more old.log m.notes) (sym is);
}

alike_self : (w : World) → Alike w w
alike_self w = record { cache = refl; pages = λ page. refl; results = λ job. refl; breaks = refl; failures = refl }

-- it is refused, and nothing happens
pub acts-refused : {action : Action} {answer : Answer} (old : Playing) (refusal : Refusal) → act action (world_of old) ≡ record { world = world_of old; answer = Some (steps.Refused refusal); notes = [] } → Some (steps.Refused refusal) ≡ Some answer → Acts action answer old old
acts-refused old refusal is seen = acts_by _ is (alike_self (world_of old)) seen (sym (told-nothing old.log))

-- it asks for a restart, which changes nothing
pub acts-restart : {answer : Answer} {old new : Playing} → new ≡ old → restart_answer (is_at_rest old.cache) ≡ answer → Acts Restart answer old new
acts-restart {answer} {old} {new} same seen =
    acts_by (record { world = world_of old; answer = Some (restart_answer (is_at_rest old.cache)); notes = [] }) refl (subst (λ (p : Playing). Alike (world_of p) (world_of old)) (sym same) (alike_self (world_of old))) (ap Some seen)
    (ap (λ (p : Playing). p.log) same ∙ sym (told-nothing old.log))

-- it is a call
pub acts-call : {action : Action} {answer : Answer} {old new : Playing} (moved : Moved) → act action (world_of old) ≡ by_step (by_call (world_of old) moved) → Calls moved answer old new → Acts action answer old new
acts-call {action} {answer} {old} {new} moved is c =
    acts_by (by_step (by_call (world_of old) moved)) is
    (record { cache = c.cache; pages = λ page i. held_by (c.flash i) page; results = λ job i. result_at job (c.results i); breaks = refl; failures = refl })
    c.answered c.log

-- what is seen of a cache over its device
abbrev pub playing : Logged → Memory → List Result → Playing
playing logged flash results = record { cache = logged.cache; log = logged.log; flash = flash; results = results }

pub calls-by : {answer : Answer} {old new : Logged} {flash : Memory} {results : List Result} (moved : Moved) (said : machine.Answer) → IsCall moved said old new → answer_of said ≡ Some answer → Calls moved answer (playing old flash results) (playing new flash results)
calls-by moved said call seen = record { cache = call.cache; answered = ap answer_of (sym call.answer_is) ∙ seen; log = call.log; flash = refl; results = refl }

pub acts-step : {action : Action} {answer : Answer} {old new : Logged} {flash : Memory} {results : List Result} (moved : Moved) (said : machine.Answer)
    → act action (world_of (playing old flash results)) ≡ by_step (by_call (world_of (playing old flash results)) moved) → IsCall moved said old new → answer_of said ≡ Some answer → Acts action answer (playing old flash results) (playing new flash results)
acts-step moved said is call seen = acts-call moved is (calls-by moved said call seen)

-- it is refused as the machine refuses it, which changes nothing
pub calls-refused : {answer : Answer} {old new : Logged} {flash : Memory} {results : List Result} (moved : Moved) (refusal : Refusal) → StaysRefused old.cache moved → refusal_in moved.answer ≡ Some refusal → new ≡ old → answer_of (machine.Refused refusal) ≡ Some answer
    → Calls moved answer (playing old flash results) (playing new flash results)
calls-refused {answer} {old} {new} moved refusal stay why same seen =
    let is = stay refusal (refused-is moved.answer refusal why) in
    record {
      cache = ap (λ (l : Logged). l.cache) same ∙ ap (λ (m : Moved). m.cache) (sym is);
      answered = ap (λ (m : Moved). answer_of m.answer) is ∙ seen;
      log = ap (λ (l : Logged). l.log) same ∙ sym (told-nothing old.log) ∙ ap (λ (m : Moved). told_more old.log m.part) (sym is);
      flash = refl;
      results = refl;
    }

-- the refusal of a call, unless it is out of memory
abbrev pub IsTold : Refusal → Answer → Type 0
IsTold refusal answer = (refusal ≢ NoMemory) × (answer_of (machine.Refused refusal) ≡ Some answer)

pub calls-unmade : {answer : Answer} {old new : Logged} {flash : Memory} {results : List Result} (moved : Moved) (refusal : Refusal) → StaysRefused old.cache moved → (refusal_in moved.answer ≡ Some refusal) ⊎ ((refusal_in moved.answer ≡ None) × (refusal ≡ NoMemory)) → new ≡ old → IsTold refusal answer
    → Calls moved answer (playing old flash results) (playing new flash results)
calls-unmade moved refusal stay (inl why) same told = calls-refused moved refusal stay why same told.1
calls-unmade moved refusal stay (inr why) same told = absurd (told.0 why.1)

pub acts-unmade : {action : Action} {answer : Answer} {old new : Logged} {flash : Memory} {results : List Result} (moved : Moved) (refusal : Refusal)
    → act action (world_of (playing old flash results)) ≡ by_step (by_call (world_of (playing old flash results)) moved) → StaysRefused old.cache moved → (refusal_in moved.answer ≡ Some refusal) ⊎ ((refusal_in moved.answer ≡ None) × (refusal ≡ NoMemory)) → new ≡ old → IsTold refusal answer
    → Acts action answer (playing old flash results) (playing new flash results)
acts-unmade moved refusal is stay why same told = acts-call moved is (calls-unmade moved refusal stay why same told)

-- ---- keys

pub keyed : (action : Action) (key : List ℕ) (line : Line) (w : World) → deed_of action ≡ unless (key_refusal key) line → key_refusal key ≡ None → act action w ≡ by_step (step line w)
keyed action key line w e fits = ap (λ (d : Deed). done d w) (e ∙ ap (λ (r : Option Refusal). unless r line) fits)

pub barred : {action : Action} {answer : Answer} (key : List ℕ) (line : Line) (refusal : Refusal) (old new : Logged) (flash : Memory) (results : List Result) → deed_of action ≡ unless (key_refusal key) line → key_refusal key ≡ Some refusal → new ≡ old → IsTold refusal answer
    → Acts action answer (playing old flash results) (playing new flash results)
barred {action} {answer} key line refusal old new flash results e why same told =
    subst (λ (n : Logged). Acts action answer (playing old flash results) (playing n flash results)) (sym same)
    (acts-refused (playing old flash results) refusal (ap (λ (d : Deed). done d (world_of (playing old flash results))) (e ∙ ap (λ (r : Option Refusal). unless r line) why)) told.1)

-- a call that is refused for its key alone
pub unkeyed : {action : Action} {answer : Answer} (key : List ℕ) (line : Line) (refusal : Refusal) (old new : Logged) (flash : Memory) (results : List Result) → deed_of action ≡ unless (key_refusal key) line
    → (key_refusal key ≡ Some refusal) ⊎ ((key_refusal key ≡ None) × (refusal ≡ NoMemory)) → new ≡ old → IsTold refusal answer → Acts action answer (playing old flash results) (playing new flash results)
unkeyed key line refusal old new flash results e (inl why) same told = barred key line refusal old new flash results e why same told
unkeyed key line refusal old new flash results e (inr why) same told = absurd (told.0 why.1)

-- ---- an item that isn't stored

insert_stays : (insert : Handle → Cache → Moved) (refusal : Refusal) (cache : Cache) (opened : Moved) → opened ≡ stays (machine.Refused refusal) cache → inserted insert opened ≡ stays (machine.Refused refusal) cache
insert_stays insert refusal cache opened is = ap (λ (m : Moved). inserted insert m) is

-- its allocation is refused, or its key
pub unopened : {action : Action} {answer : Answer} (insert : Handle → Cache → Moved) (pool : ℕ) (key value : List ℕ) (ttl : ℕ) (line : Line) (refusal : Refusal) (old new : Logged) (flash : Memory) (results : List Result) → deed_of action ≡ unless (key_refusal key) line
    → by_step (step line (world_of (playing old flash results))) ≡ by_step (by_call (world_of (playing old flash results)) (inserted insert (allocate pool key value ttl old.cache)))
    → (key_refusal key ≡ Some refusal) ⊎ ((key_refusal key ≡ None) × ((refusal_in (allocate pool key value ttl old.cache).answer ≡ Some refusal) ⊎ (refusal ≡ NoMemory))) → new ≡ old → IsTold refusal answer → Acts action answer (playing old flash results) (playing new flash results)
unopened insert pool key value ttl line refusal old new flash results e s (inl why) same told = barred key line refusal old new flash results e why same told
unopened insert pool key value ttl line refusal old new flash results e s (inr (fits, inr why)) same told = absurd (told.0 why)
unopened {action} {answer} insert pool key value ttl line refusal old new flash results e s (inr (fits, inl why)) same told =
    let opened = allocate pool key value ttl old.cache in
    let is = insert_stays insert refusal old.cache opened (allocate-stays pool key value ttl old.cache refusal (refused-is opened.answer refusal why)) in
    let w = world_of (playing old flash results) in
    subst (λ (n : Logged). Acts action answer (playing old flash results) (playing n flash results)) (sym same)
    (acts-refused (playing old flash results) refusal (keyed action key line w e fits ∙ s ∙ ap (λ (m : Moved). by_step (by_call w m)) is) told.1)

-- ---- device operations

-- the pages behind an operation that came to this, and the results with its own
made_like : (w : World) (job : ℕ) (order : Order) (came result : IoResult) (new : Playing) → came ≡ result → new.cache ≡ w.cache → ((page : ℕ) → held_by new.flash page ≡ pages_after order came w.pages page)
    → ((every : ℕ) → result_at every new.results ≡ (if job == every then Some came else result_at every w.results)) → w.breaks ≡ [] → w.failures ≡ 0 → Alike (world_of new) (made w job order result).world
made_like w job order came result new is cache pages results breaks failures = record {
  cache = cache;
  pages = λ page. pages page ∙ ap (λ (r : IoResult). pages_after order r w.pages page) is;
  results = λ every. results every ∙ ap (λ (r : IoResult). if job == every then Some r else result_at every w.results) is;
  breaks = sym breaks;
  failures = sym failures;
}

-- it is made, or fails
pub acts-made : {answer : Answer} {old new : Playing} (job : ℕ) (fails : Bool) (order : Order) (came : IoResult) → order_in old.cache.nvm job ≡ Some order → result_at job old.results ≡ None → Comes order fails old.flash came new.flash
    → ((every : ℕ) → result_at every new.results ≡ (if job == every then Some came else result_at every old.results)) → new.cache ≡ old.cache → new.log ≡ old.log → io_answer came ≡ answer → Acts (Serve (Io job fails)) answer old new
acts-made {answer} {old} {new} job true order came at none comes results cache log seen =
    acts_by (by_step (made (world_of old) job order (result_of order true (held_by old.flash)))) (λ i. by_step (io_of (world_of old) job true (at i) (none i)))
    (made_like (world_of old) job order came (result_of order true (held_by old.flash)) new comes.result_is cache comes.pages results refl refl)
    (ap (λ (r : IoResult). Some (io_answer r)) (sym comes.result_is) ∙ ap (λ (a : Answer). Some a) seen) (log ∙ sym (told-nothing old.log))
acts-made {answer} {old} {new} job false order came at none comes results cache log seen =
    acts_by (by_step (made (world_of old) job order (result_of order false (held_by old.flash)))) (λ i. by_step (io_of (world_of old) job false (at i) (none i)))
    (made_like (world_of old) job order came (result_of order false (held_by old.flash)) new comes.result_is cache comes.pages results refl refl)
    (ap (λ (r : IoResult). Some (io_answer r)) (sym comes.result_is) ∙ ap (λ (a : Answer). Some a) seen) (log ∙ sym (told-nothing old.log))

pub not-there : (o : Option IoResult) → is_some o ≡ false → o ≡ None
not-there None h = refl
not-there (Some r) h = absurd cc

-- ---- results

-- it is handed in, and doesn't wait any longer
pub acts-finish : {answer : Answer} {old mid new : Playing} (job : ℕ) (result : IoResult) → result_at job old.results ≡ Some result → mid.cache ≡ old.cache → mid.log ≡ old.log → mid.flash ≡ old.flash
    → ((every : ℕ) → result_at every mid.results ≡ (if job == every then None else result_at every old.results)) → Calls (workers.finish job result mid.cache) answer mid new → Acts (Serve (Finish job)) answer old new
acts-finish {answer} {old} {mid} {new} job result at cache log flash gone c =
    let moved : Cache → Moved = λ k. workers.finish job result k in
    acts_by (by_step (by_call (record (world_of old) { results = without_result job old.results }) (moved old.cache))) (ap (λ (r : Option IoResult). by_step (done_of (world_of old) job r)) at)
    (record {
      cache = c.cache ∙ ap (λ (k : Cache). (moved k).cache) cache;
      pages = λ page. ap (λ (f : Memory). held_by f page) (c.flash ∙ flash);
      results = λ every. ap (result_at every) c.results ∙ gone every ∙ sym (result-gone job every old.results);
      breaks = refl;
      failures = refl;
    })
    (ap (λ (k : Cache). answer_of (moved k).answer) (sym cache) ∙ c.answered)
    (c.log ∙ (λ i. told_more (log i) (moved (cache i)).part))
