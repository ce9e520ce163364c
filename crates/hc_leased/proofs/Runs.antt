-- Each call is a run of calls of the machine, of which its stamps hear, and so are calls one after the other.
use Rattle.std.proofs.Common.{◌≡◌, ℕ, List, [], ◌∷◌, ◌++◌, length, Option, Some, None, refl, sym, ap, ◌∙◌, subst, find}
use Rattle.std.proofs.lemmas.List.{append_assoc}
use Rattle.hc_types.specs.declared.refusal.Refusal.{Refusal}
use Rattle.hc_types.specs.declared.refusal.Refusal.TheVariants.{Exists}
use Rattle.hc_memory.specs.Item.{Handle}
use Rattle.hc_history.specs.Note as note
use Rattle.hc_history.specs.Note.{Note, Reply}
use Rattle.hc_history.specs.Told.{Heard, Log, told_more, losses_taken}
use Rattle.hc_history.proofs.Telling.{told-twice}
use Rattle.hc_machine.specs.Cache.{Cache, Moved, Answer, Refused, Opened, Discarded, Replied, Waits, Moment, Took, Reclaimed}
use Rattle.hc_machine.specs.Evicting.{handle_for, allocate_by, allocate}
use Rattle.hc_machine.specs.items.Allocating.{refusal_of, expiry_of}
use Rattle.hc_machine.specs.Calls.{insert_or_replace, insert, discard}
use Rattle.hc_machine.specs.World.{then_inserted, given_up, put_new}
use Rattle.hc_calls.specs.declared.answers.Inserted.{Inserted}
use Rattle.hc_calls.specs.declared.answers.Inserted.TheVariants as inserted
use Rattle.hc_core.specs.Answers.{inserted_answer}
use Rattle.hc_core.specs.Logged.{Logged, IsCall}
use Rattle.hc_machine.specs.Call.{CacheCall, Allocates, Inserts, Adds, Discards, Finds, Removes, Replies, Ticks, Writes, Fills, Reclaims, Finishes, act, acts}
use Rattle.hc_lease.specs.Stamps.{Stamps, changed, is_of_call, ended}
use Rattle.hc_lease.specs.declared.stamps.Adding.{Adding}
use Rattle.hc_lease_log.specs.Log.{Kind, Changing, Waiting, Replying, Other, stamped_by}
use Rattle.hc_lease_steps.specs.Runs.{kind_of, stamps_by}
use Rattle.hc_leased.specs.Leased.{Leased, Become, stamps_added}
use Rattle.hc_leased.specs.Runs.{Call, Looks, Stores, Sets, GivesUp, Puts, Tries, Fails, Deletes, Takes, Forgets, Nothing, IsLook, with_handle, events_of, IsRun, CallsAreRuns, Chain, all_events}

-- ---- room for more adds is another matter

abbrev pub roomed : ℕ → Stamps → Stamps
roomed room stamps = record stamps { room = room }

stamped-roomed : (room : ℕ) (kind : Kind) (stamps : Stamps) → stamped_by kind (roomed room stamps) ≡ roomed room (stamped_by kind stamps)
stamped-roomed room (Changing key) stamps = refl
stamped-roomed room (Waiting call key) stamps = refl
stamped-roomed room (Replying call) stamps = go (find (is_of_call call) stamps.adds)
  where
    go : (o : Option Adding) → ended o (roomed room stamps) ≡ roomed room (ended o stamps)
    go None = refl
    go (Some add) = refl
stamped-roomed room Other stamps = refl

pub stamps-roomed : (room : ℕ) (events : List CacheCall) (cache : Cache) (stamps : Stamps) → stamps_by events cache (roomed room stamps) ≡ roomed room (stamps_by events cache stamps)
stamps-roomed room [] cache stamps = refl
stamps-roomed room (event ∷ events) cache stamps =
    let kind = kind_of event (act event cache).answer in
    ap (stamps_by events (act event cache).cache) (stamped-roomed room kind stamps) ∙ stamps-roomed room events (act event cache).cache (stamped_by kind stamps)

pub same-room : (old new : Stamps) → new ≡ old → Become old new
same-room old new e = λ i. record (e i) { room = new.room }

-- ---- one run after another

pub acts-cache : (one two : List CacheCall) (cache : Cache) → (acts (one ++ two) cache).cache ≡ (acts two (acts one cache).cache).cache
acts-cache [] two cache = refl
acts-cache (event ∷ one) two cache = acts-cache one two (act event cache).cache

pub acts-log : (one two : List CacheCall) (cache : Cache) → (acts (one ++ two) cache).log ≡ (acts one cache).log ++ (acts two (acts one cache).cache).log
acts-log [] two cache = refl
acts-log (event ∷ one) two cache =
    let moved = act event cache in
    ap (λ log. moved.part ++ log) (acts-log one two moved.cache) ∙ sym (append_assoc moved.part (acts one moved.cache).log (acts two (acts one moved.cache).cache).log)

pub stamps-append : (one two : List CacheCall) (cache : Cache) (stamps : Stamps) → stamps_by (one ++ two) cache stamps ≡ stamps_by two (acts one cache).cache (stamps_by one cache stamps)
stamps-append [] two cache stamps = refl
stamps-append (event ∷ one) two cache stamps = stamps-append one two (act event cache).cache (stamped_by (kind_of event (act event cache).answer) stamps)

pub run-append : (one two : List CacheCall) (a b c : Leased) → IsRun one a b → IsRun two b c → IsRun (one ++ two) a c
run-append one two a b c first second = record {
  cache = second.cache ∙ (ap (λ (k : Cache). (acts two k).cache) first.cache ∙ sym (acts-cache one two a.logged.cache));
  log = λ log e. second.log (log ++ (acts one a.logged.cache).log) (first.log log e)
      ∙ (ap (λ (k : Cache). Log ((log ++ (acts one a.logged.cache).log) ++ (acts two k).log)) first.cache
      ∙ ap (λ ns. Log ns) (append_assoc log (acts one a.logged.cache).log (acts two (acts one a.logged.cache).cache).log ∙ ap (λ part. log ++ part) (sym (acts-log one two a.logged.cache))));
  stamps =
      let room = c.stamps.room in
      let one_stamps = stamps_by one a.logged.cache a.stamps in
      second.stamps
      ∙ (ap (λ (k : Cache). roomed room (stamps_by two k b.stamps)) first.cache
      ∙ (ap (λ (s : Stamps). roomed room (stamps_by two (acts one a.logged.cache).cache s)) first.stamps
      ∙ (ap (roomed room) (stamps-roomed b.stamps.room two (acts one a.logged.cache).cache one_stamps)
      ∙ ap (roomed room) (sym (stamps-append one two a.logged.cache a.stamps)))));
}

-- ---- one call of the machine

append-none : (log : List Note) → log ++ [] ≡ log
append-none [] = refl
append-none (note ∷ log) = ap (λ ns. note ∷ ns) (append-none log)

pub one-run : (event : CacheCall) (answer : Answer) (old new : Leased) → IsCall (act event old.logged.cache) answer old.logged new.logged → Become (stamped_by (kind_of event answer) old.stamps) new.stamps → IsRun (event ∷ []) old new
one-run event answer old new call stamps =
    let moved = act event old.logged.cache in
    record {
      cache = call.cache;
      log = λ log e. call.log ∙ (ap (λ (h : Heard). told_more h moved.part) e ∙ ap (λ part. Log (log ++ part)) (sym (append-none moved.part)));
      stamps = subst (λ (a : Answer). Become (stamped_by (kind_of event a) old.stamps) new.stamps) call.answer_is stamps;
    }

pub look-kind : (event : CacheCall) (answer : Answer) → IsLook event → kind_of event answer ≡ Other
look-kind (Allocates pool key value ttl) answer h = refl
look-kind (Inserts client handle) answer h = absurd h
look-kind (Adds client handle) answer h = absurd h
look-kind (Discards handle) answer h = refl
look-kind (Finds client key) answer h = refl
look-kind (Removes client key) answer h = absurd h
look-kind (Replies call) answer h = absurd h
look-kind (Ticks moment) answer h = refl
look-kind Writes answer h = refl
look-kind Fills answer h = refl
look-kind Reclaims answer h = refl
look-kind (Finishes number result) answer h = refl

look-run : (event : CacheCall) (answer : Answer) (old new : Leased) → IsLook event → IsCall (act event old.logged.cache) answer old.logged new.logged → Become old.stamps new.stamps → IsRun (event ∷ []) old new
look-run event answer old new look call stamps = one-run event answer old new call (subst (λ (k : Kind). Become (stamped_by k old.stamps) new.stamps) (sym (look-kind event answer look)) stamps)

put-run : (client : ℕ) (handle : Handle) (done : Inserted) (old new : Leased) → IsCall (insert client handle old.logged.cache) (inserted_answer done) old.logged new.logged → Become (stamps_added handle.key done old.stamps) new.stamps → IsRun (Adds client handle ∷ []) old new
put-run client handle inserted.Stored old new call stamps = one-run (Adds client handle) (Replied note.Stored) old new call stamps
put-run client handle (inserted.Waiting n) old new call stamps = one-run (Adds client handle) (Waits n) old new call stamps

pub none-run : (old new : Leased) → new.logged ≡ old.logged → Become old.stamps new.stamps → IsRun [] old new
none-run old new same stamps = record {
  cache = ap (λ (l : Logged). l.cache) same;
  log = λ log e. ap (λ (l : Logged). l.log) same ∙ (e ∙ ap (λ ns. Log ns) (sym (append-none log)));
  stamps = stamps;
}

forget-run : (old new : Leased) → new.logged ≡ record old.logged { log = losses_taken old.logged.log } → Become old.stamps new.stamps → IsRun [] old new
forget-run old new taken stamps = record {
  cache = ap (λ (l : Logged). l.cache) taken;
  log = λ log e. ap (λ (l : Logged). l.log) taken ∙ (ap losses_taken e ∙ ap (λ ns. Log ns) (sym (append-none log)));
  stamps = stamps;
}

-- ---- an item is allocated, and something is done with its handle

-- an item that is allocated has the key, the value, and its pool
pub opened-key : (pool : ℕ) (key value : List ℕ) (ttl : ℕ) (cache : Cache) (handle : Handle) → (allocate pool key value ttl cache).answer ≡ Opened handle → handle.key ≡ key
opened-key pool key value ttl cache handle e = go (refusal_of cache.memory pool key (length value)) e
  where
    go : (o : Option Refusal) → (allocate_by o pool key value ttl cache).answer ≡ Opened handle → handle.key ≡ key
    go None e = cc
    go (Some refusal) e = absurd cc

pub opened-value : (pool : ℕ) (key value : List ℕ) (ttl : ℕ) (cache : Cache) (handle : Handle) → (allocate pool key value ttl cache).answer ≡ Opened handle → handle.value ≡ value
opened-value pool key value ttl cache handle e = go (refusal_of cache.memory pool key (length value)) e
  where
    go : (o : Option Refusal) → (allocate_by o pool key value ttl cache).answer ≡ Opened handle → handle.value ≡ value
    go None e = cc
    go (Some refusal) e = absurd cc

-- the cache once it is, of which nothing else is changed
abbrev mid_of : Leased → Moved → Leased
mid_of old moved = record old { logged = record { cache = moved.cache; log = told_more old.logged.log moved.part } }

module _ (pool : ℕ) (key value : List ℕ) (ttl : ℕ) (old new : Leased) where
  abbrev opened : Moved
  opened = allocate pool key value ttl old.logged.cache

  allocated-run : (answer : Answer) → opened.answer ≡ answer → IsRun (Allocates pool key value ttl ∷ []) old (mid_of old opened)
  allocated-run answer e = look-run (Allocates pool key value ttl) answer old (mid_of old opened) tt (record { cache = refl; answer_is = sym e; log = refl }) refl

  -- what is done then, as the machine has it
  then-call : (f : Handle → Cache → Moved) (handle : Handle) (answer : Answer) → IsCall (then_inserted f (Opened handle) opened) answer old.logged new.logged → IsCall (f handle (mid_of old opened).logged.cache) answer (mid_of old opened).logged new.logged
  then-call f handle answer call = record { cache = call.cache; answer_is = call.answer_is; log = call.log ∙ sym (told-twice old.logged.log opened.part (f handle opened.cache).part) }

  after-opened : (events : List CacheCall) (handle : Handle) → opened.answer ≡ Opened handle → IsRun events (mid_of old opened) new → IsRun (Allocates pool key value ttl ∷ events) old new
  after-opened events handle e run = run-append (Allocates pool key value ttl ∷ []) events old (mid_of old opened) new (allocated-run (Opened handle) e) run

  -- it is, or that is refused
  opened-or : (P : Answer → Type 0) → ((handle : Handle) → opened.answer ≡ Opened handle → P (Opened handle)) → ((refusal : Refusal) → opened.answer ≡ Refused refusal → P (Refused refusal)) → P opened.answer
  opened-or P f g = go (refusal_of old.logged.cache.memory pool key (length value)) f g
    where
      go : (o : Option Refusal) → ((handle : Handle) → (allocate_by o pool key value ttl old.logged.cache).answer ≡ Opened handle → P (Opened handle))
          → ((refusal : Refusal) → (allocate_by o pool key value ttl old.logged.cache).answer ≡ Refused refusal → P (Refused refusal)) → P (allocate_by o pool key value ttl old.logged.cache).answer
      go None f g = f (handle_for old.logged.cache pool key value (expiry_of old.logged.cache.now ttl)) refl
      go (Some refusal) f g = g refusal refl

  abbrev ThenBy : (Handle → Cache → Moved) → Answer → Answer → Type 0
  ThenBy f answer a = IsCall (then_inserted f a opened) answer old.logged new.logged

  abbrev RunsBy : (Handle → List CacheCall) → Answer → Type 0
  RunsBy g a = IsRun (Allocates pool key value ttl ∷ with_handle a g) old new

  set-run : ThenBy (insert_or_replace 0) (Replied note.Stored) opened.answer → new.stamps ≡ changed key old.stamps → RunsBy (λ handle. Inserts 0 handle ∷ []) opened.answer
  set-run call e = opened-or (λ a. ThenBy (insert_or_replace 0) (Replied note.Stored) a → RunsBy (λ handle. Inserts 0 handle ∷ []) a)
      (λ handle is call. after-opened (Inserts 0 handle ∷ []) handle is
      (one-run (Inserts 0 handle) (Replied note.Stored) (mid_of old opened) new (then-call (insert_or_replace 0) handle (Replied note.Stored) call)
      (subst (λ k. Become (changed k old.stamps) new.stamps) (sym (opened-key pool key value ttl old.logged.cache handle is)) (same-room (changed key old.stamps) new.stamps e))))
      (λ refusal is call. absurd (not-refused refusal (call.answer_is ∙ is)))
      call
    where
      not-refused : (refusal : Refusal) → ◌≡◌ {A = Answer} (Replied note.Stored) (Refused refusal) → ⊥
      not-refused refusal h = cc

  give-up-run : ThenBy discard Discarded opened.answer → Become old.stamps new.stamps → RunsBy (λ handle. Discards handle ∷ []) opened.answer
  give-up-run call stamps = opened-or (λ a. ThenBy discard Discarded a → RunsBy (λ handle. Discards handle ∷ []) a)
      (λ handle is call. after-opened (Discards handle ∷ []) handle is (look-run (Discards handle) Discarded (mid_of old opened) new tt (then-call discard handle Discarded call) stamps))
      (λ refusal is call. look-run (Allocates pool key value ttl) Discarded old new tt call stamps)
      call

  -- an add that is answered so isn't given up
  added-so : (handle : Handle) (answer : Answer) (moved : Moved) (a : Answer) → moved.answer ≡ a → ((refusal : Refusal) → answer ≡ Refused refusal → ⊥) → IsCall (given_up handle a moved) answer (mid_of old opened).logged new.logged → IsCall moved answer (mid_of old opened).logged new.logged
  added-so handle answer moved (Refused refusal) e never call = absurd (never refusal call.answer_is)
  added-so handle answer moved a e never call = call

  try-run : (done : Inserted) → ThenBy put_new (inserted_answer done) opened.answer → Become (stamps_added key done old.stamps) new.stamps → RunsBy (λ handle. Adds 0 handle ∷ []) opened.answer
  try-run done call stamps = opened-or (λ a. ThenBy put_new (inserted_answer done) a → RunsBy (λ handle. Adds 0 handle ∷ []) a)
      (λ handle is call. after-opened (Adds 0 handle ∷ []) handle is
      (put-run 0 handle done (mid_of old opened) new
      (added-so handle (inserted_answer done) (insert 0 handle opened.cache) (insert 0 handle opened.cache).answer refl (not-refused done) (then-call put_new handle (inserted_answer done) call))
      (subst (λ k. Become (stamps_added k done old.stamps) new.stamps) (sym (opened-key pool key value ttl old.logged.cache handle is)) stamps)))
      (λ refusal is call. absurd (not-refused done refusal (call.answer_is ∙ is)))
      call
    where
      not-refused : (done : Inserted) (refusal : Refusal) → inserted_answer done ≡ Refused refusal → ⊥
      not-refused inserted.Stored refusal h = cc
      not-refused (inserted.Waiting n) refusal h = cc

  -- one that is refused is
  failed-so : (handle : Handle) (mid : Leased) (moved : Moved) (a : Answer) → insert 0 handle mid.logged.cache ≡ moved → moved.answer ≡ a → Become mid.stamps new.stamps
      → IsCall (given_up handle a moved) (Refused Exists) mid.logged new.logged → IsRun (Adds 0 handle ∷ Discards handle ∷ []) mid new
  failed-so handle mid moved (Refused refusal) is e stamps call =
      let by = act (Discards handle) moved.cache in
      let same : insert 0 handle mid.logged.cache ≡ moved = is in
      let first : IsRun (Adds 0 handle ∷ []) mid (mid_of mid moved) = one-run (Adds 0 handle) (Refused refusal) mid (mid_of mid moved) (record { cache = ap (λ (m : Moved). m.cache) (sym is); answer_is = sym e ∙ ap (λ (m : Moved). m.answer) (sym is); log = ap (λ (m : Moved). told_more mid.logged.log m.part) (sym is) }) refl in
      let second : IsRun (Discards handle ∷ []) (mid_of mid moved) new = look-run (Discards handle) by.answer (mid_of mid moved) new tt (record { cache = call.cache; answer_is = refl; log = call.log ∙ sym (told-twice mid.logged.log moved.part by.part) }) stamps in
      run-append (Adds 0 handle ∷ []) (Discards handle ∷ []) mid (mid_of mid moved) new first second
  failed-so handle mid moved (Opened other) is e stamps call = let never_so : ◌≡◌ {A = Answer} (Refused Exists) (Opened other) = call.answer_is ∙ e in absurd cc
  failed-so handle mid moved Discarded is e stamps call = let never_so : ◌≡◌ {A = Answer} (Refused Exists) Discarded = call.answer_is ∙ e in absurd cc
  failed-so handle mid moved (Replied reply) is e stamps call = let never_so : ◌≡◌ {A = Answer} (Refused Exists) (Replied reply) = call.answer_is ∙ e in absurd cc
  failed-so handle mid moved (Waits n) is e stamps call = let never_so : ◌≡◌ {A = Answer} (Refused Exists) (Waits n) = call.answer_is ∙ e in absurd cc
  failed-so handle mid moved (Moment now) is e stamps call = let never_so : ◌≡◌ {A = Answer} (Refused Exists) (Moment now) = call.answer_is ∙ e in absurd cc
  failed-so handle mid moved (Took take) is e stamps call = let never_so : ◌≡◌ {A = Answer} (Refused Exists) (Took take) = call.answer_is ∙ e in absurd cc
  failed-so handle mid moved (Reclaimed region) is e stamps call = let never_so : ◌≡◌ {A = Answer} (Refused Exists) (Reclaimed region) = call.answer_is ∙ e in absurd cc

  fail-run : ThenBy put_new (Refused Exists) opened.answer → Become old.stamps new.stamps → RunsBy (λ handle. Adds 0 handle ∷ Discards handle ∷ []) opened.answer
  fail-run call stamps = opened-or (λ a. ThenBy put_new (Refused Exists) a → RunsBy (λ handle. Adds 0 handle ∷ Discards handle ∷ []) a)
      (λ handle is call. after-opened (Adds 0 handle ∷ Discards handle ∷ []) handle is
      (failed-so handle (mid_of old opened) (insert 0 handle opened.cache) (insert 0 handle opened.cache).answer refl refl stamps (then-call put_new handle (Refused Exists) call)))
      (λ refusal is call. look-run (Allocates pool key value ttl) (Refused Exists) old new tt call stamps)
      call

-- ---- each call

pub calls-are-runs : CallsAreRuns
calls-are-runs (Looks event answer) old new does = look-run event answer old new does.0 does.1 (same-room old.stamps new.stamps does.2)
calls-are-runs (Stores client handle) old new does = one-run (Inserts client handle) (Replied note.Stored) old new does.0 (same-room (changed handle.key old.stamps) new.stamps does.1)
calls-are-runs (Sets pool key value ttl) old new does = set-run pool key value ttl old new does.0 does.1
calls-are-runs (GivesUp pool key value ttl) old new does = give-up-run pool key value ttl old new does.0 does.1
calls-are-runs (Puts client handle done) old new does = put-run client handle done old new does.0 does.1
calls-are-runs (Tries pool key value ttl done) old new does = try-run pool key value ttl old new done does.0 does.1
calls-are-runs (Fails pool key value ttl) old new does = fail-run pool key value ttl old new does.0 does.1
calls-are-runs (Deletes client key answer) old new does = one-run (Removes client key) answer old new does.0 (same-room (changed key old.stamps) new.stamps does.1)
calls-are-runs (Takes call reply) old new does = one-run (Replies call) (Replied reply) old new does.0 does.1
calls-are-runs Forgets old new does = forget-run old new does.0 (same-room old.stamps new.stamps does.1)
calls-are-runs Nothing old new does = none-run old new does.0 does.1

-- ---- calls one after the other

pub chain-runs : (calls : List Call) (old new : Leased) → Chain calls old new → IsRun (all_events calls old.logged.cache) old new
chain-runs [] old new e = none-run old new (ap (λ (l : Leased). l.logged) e) (same-room old.stamps new.stamps (ap (λ (l : Leased). l.stamps) e))
chain-runs (call ∷ calls) old new chain =
    let middle = chain.0 in
    let first = calls-are-runs call old middle chain.1.0 in
    let rest = chain-runs calls middle new chain.1.1 in
    run-append (events_of call old.logged.cache) (all_events calls (acts (events_of call old.logged.cache) old.logged.cache).cache) old middle new first
    (subst (λ (cache : Cache). IsRun (all_events calls cache) middle new) first.cache rest)

pub events-append : (one two : List Call) (cache : Cache) → all_events (one ++ two) cache ≡ all_events one cache ++ all_events two (acts (all_events one cache) cache).cache
events-append [] two cache = refl
events-append (call ∷ one) two cache =
    let events = events_of call cache in
    let next = (acts events cache).cache in
    ap (λ rest. events ++ rest) (events-append one two next)
    ∙ (sym (append_assoc events (all_events one next) (all_events two (acts (all_events one next) next).cache))
    ∙ ap (λ (c : Cache). (events ++ all_events one next) ++ all_events two c) (sym (acts-cache events (all_events one next) cache)))
