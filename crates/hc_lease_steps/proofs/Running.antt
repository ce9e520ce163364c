-- Any calls of a cache, as its stamps hear of them.
use Rattle.std.proofs.Common.{◌≡◌, ℕ, ◌+◌, Bool, true, false, List, [], ◌∷◌, ◌++◌, Option, Some, None, refl, sym, ap, ◌∙◌, subst}
use Rattle.std.specs.Prelude.{if◌then◌else◌, is_some}
use Rattle.hc_types.specs.Config.{Config}
use Rattle.hc_types.specs.declared.refusal.Refusal.TheVariants.{ForeignHandle, Exists as AlreadyExists}
use Rattle.hc_memory.specs.Item.{Handle}
use Rattle.hc_history.specs.Note.{Note, Insert, Add, Reply, Stored}
use Rattle.hc_history.specs.Lawful.{past}
use Rattle.hc_history.specs.Honest.{Honest}
use Rattle.hc_history.proofs.Appended.{past-append}
use Rattle.std.proofs.lemmas.List.{append_assoc}
use Rattle.hc_machine.specs.Nvm.{ToAdd}
use Rattle.hc_machine.specs.Cache.{Cache, Owed, Moved, Answer, Replied, Waits, Refused, owed_at, and_then, answers, stays, new_cache}
use Rattle.hc_machine.specs.Waiting.{live}
use Rattle.hc_machine.specs.Calls.{insert_or_replace, insert, take_reply, take_of, in_memory, is_known, must_wait, wait_for, begin, store}
use Rattle.hc_invariant.specs.Good.{Agrees}
use Rattle.hc_machine.specs.Call.{CacheCall, Allocates, Inserts, Adds, Discards, Finds, Removes, Replies, Ticks, Writes, Fills, Reclaims, Finishes, act, acts}
use Rattle.hc_theorem.specs.runs.Honesty.{AllCallSized}
use Rattle.hc_theorem.specs.runs.Lock.{Guarded}
use Rattle.hc_theorem.proofs.runs.Honesty.{honest-split}
use Rattle.hc_theorem.proofs.headlines.WholeRuns as theorem
use Rattle.hc_lease.specs.Stamps.{is_fresh}
use Rattle.hc_lease_log.specs.Log.{Step, Tells, AllTell, stamps_after, log_after, changes_of}
use Rattle.hc_lease_log.proofs.Over.{fresh-over}
use Rattle.hc_lease_steps.specs.Runs.{kind_of, step_of, steps_of, TicketsHold}
use Rattle.hc_lease_steps.proofs.Telling.{calls-tell}

abbrev TellsBy : CacheCall → List Note → Answer → List Note → Type 0
TellsBy event older answer part = Tells (kind_of event answer) older part

-- by what it is answered
by-insert : (older : List Note) (client : ℕ) (handle : Handle) (cache : Cache) (b : Bool) → is_known cache handle ≡ b → TellsBy (Inserts client handle) older (insert_or_replace client handle cache).answer (insert_or_replace client handle cache).part
by-insert older client handle cache true e =
    let replied : (insert_or_replace client handle cache).answer ≡ Replied Stored = ap (λ (t : Bool). (if t then answers (Replied Stored) (and_then (begin client (Insert handle.key handle.value handle.expiry) cache) (store handle)) else stays (Refused ForeignHandle) cache).answer) e in
    subst (λ (a : Answer). TellsBy (Inserts client handle) older a (insert_or_replace client handle cache).part) (sym replied) ((calls-tell older client cache).replaced handle Stored replied)
by-insert older client handle cache false e =
    subst (λ (t : Bool). TellsBy (Inserts client handle) older (if t then answers (Replied Stored) (and_then (begin client (Insert handle.key handle.value handle.expiry) cache) (store handle)) else stays (Refused ForeignHandle) cache).answer (if t then answers (Replied Stored) (and_then (begin client (Insert handle.key handle.value handle.expiry) cache) (store handle)) else stays (Refused ForeignHandle) cache).part) (sym e) tt

abbrev new_if : Bool → Bool → Bool → ℕ → Handle → Cache → Moved
new_if a b w client handle cache =
    if a then stays (Refused AlreadyExists) cache
    else (if b then (if w then answers (Waits (cache.calls + 1)) (and_then (begin client (Add handle.key handle.value handle.expiry) cache) (wait_for handle.key (ToAdd handle)))
    else answers (Replied Stored) (and_then (begin client (Add handle.key handle.value handle.expiry) cache) (store handle)))
    else stays (Refused ForeignHandle) cache)

abbrev new_at : Handle → Cache → Bool
new_at handle cache = is_some (live cache.now (in_memory cache handle.key))

by-add : (older : List Note) (client : ℕ) (handle : Handle) (cache : Cache) (a b w : Bool) → new_at handle cache ≡ a → is_known cache handle ≡ b → must_wait cache handle.key ≡ w
    → TellsBy (Adds client handle) older (insert client handle cache).answer (insert client handle cache).part
by-add older client handle cache true b w ea eb ew = subst (λ (t : Bool). TellsBy (Adds client handle) older (new_if t (is_known cache handle) (must_wait cache handle.key) client handle cache).answer (new_if t (is_known cache handle) (must_wait cache handle.key) client handle cache).part) (sym ea) tt
by-add older client handle cache false false w ea eb ew = subst (λ (t : Bool). TellsBy (Adds client handle) older (new_if t (is_known cache handle) (must_wait cache handle.key) client handle cache).answer (new_if t (is_known cache handle) (must_wait cache handle.key) client handle cache).part) (sym ea)
    (subst (λ (t : Bool). TellsBy (Adds client handle) older (new_if false t (must_wait cache handle.key) client handle cache).answer (new_if false t (must_wait cache handle.key) client handle cache).part) (sym eb) tt)
by-add older client handle cache false true true ea eb ew =
    let waits : (insert client handle cache).answer ≡ Waits (cache.calls + 1) = ap (λ (t : Bool). (new_if t (is_known cache handle) (must_wait cache handle.key) client handle cache).answer) ea ∙ (ap (λ (t : Bool). (new_if false t (must_wait cache handle.key) client handle cache).answer) eb ∙ ap (λ (t : Bool). (new_if false true t client handle cache).answer) ew) in
    subst (λ (x : Answer). TellsBy (Adds client handle) older x (insert client handle cache).part) (sym waits) ((calls-tell older client cache).waits handle (cache.calls + 1) waits)
by-add older client handle cache false true false ea eb ew =
    let replied : (insert client handle cache).answer ≡ Replied Stored = ap (λ (t : Bool). (new_if t (is_known cache handle) (must_wait cache handle.key) client handle cache).answer) ea ∙ (ap (λ (t : Bool). (new_if false t (must_wait cache handle.key) client handle cache).answer) eb ∙ ap (λ (t : Bool). (new_if false true t client handle cache).answer) ew) in
    subst (λ (x : Answer). TellsBy (Adds client handle) older x (insert client handle cache).part) (sym replied) ((calls-tell older client cache).added handle Stored replied)

by-reply : (config : Config) (older : List Note) (call : ℕ) (cache : Cache) → Agrees config older cache → (o : Option Owed) → owed_at call cache.owed ≡ o → TellsBy (Replies call) older (take_reply call cache).answer (take_reply call cache).part
by-reply config older call cache g None e = subst (λ (o : Option Owed). TellsBy (Replies call) older (take_of o cache).answer (take_of o cache).part) (sym e) tt
by-reply config older call cache g (Some owed) e = go owed.reply refl
  where
    go : (r : Option Reply) → owed.reply ≡ r → TellsBy (Replies call) older (take_reply call cache).answer (take_reply call cache).part
    go None f = subst (λ (o : Option Owed). TellsBy (Replies call) older (take_of o cache).answer (take_of o cache).part) (sym (e ∙ ap (λ r. Some (record owed { reply = r })) f)) tt
    go (Some reply) f =
        let replied : (take_reply call cache).answer ≡ Replied reply = ap (λ (o : Option Owed). (take_of o cache).answer) (e ∙ ap (λ r. Some (record owed { reply = r })) f) in
        subst (λ (a : Answer). TellsBy (Replies call) older a (take_reply call cache).part) (sym replied) ((calls-tell older 0 cache).replied config call reply g replied)

pub call-tells : (config : Config) (older : List Note) (event : CacheCall) (cache : Cache) → Agrees config older cache → TellsBy event older (act event cache).answer (act event cache).part
call-tells config older (Allocates pool key value ttl) cache g = (calls-tell older 0 cache).allocated pool key value ttl
call-tells config older (Inserts client handle) cache g = by-insert older client handle cache (is_known cache handle) refl
call-tells config older (Adds client handle) cache g = by-add older client handle cache (new_at handle cache) (is_known cache handle) (must_wait cache handle.key) refl refl refl
call-tells config older (Discards handle) cache g = (calls-tell older 0 cache).discarded handle
call-tells config older (Finds client key) cache g = (calls-tell older client cache).found key
call-tells config older (Removes client key) cache g = (calls-tell older client cache).removed key
call-tells config older (Replies call) cache g = by-reply config older call cache g (owed_at call cache.owed) refl
call-tells config older (Ticks moment) cache g = (calls-tell older 0 cache).ticked moment
call-tells config older Writes cache g = (calls-tell older 0 cache).wrote
call-tells config older Fills cache g = (calls-tell older 0 cache).filled
call-tells config older Reclaims cache g = (calls-tell older 0 cache).reclaimed
call-tells config older (Finishes number result) cache g = (calls-tell older 0 cache).finished number result

-- ---- the books are those of the cache, as long as the log is honest

-- before each call
abbrev pub AllAgree : Config → List CacheCall → List Note → Cache → Type 0
AllAgree config [] older cache = Unit {0}
AllAgree config (event ∷ events) older cache = Agrees config older cache × AllAgree config events (past older (act event cache).part) (act event cache).cache

pub all-agree : (config : Config) (events : List CacheCall) (log : List Note) (cache : Cache) → AllCallSized events → Guarded config log cache → Honest (log ++ (acts events cache).log) → AllAgree config events (past [] log) cache
all-agree config [] log cache sized guarded honest = tt
all-agree config (event ∷ events) log cache sized guarded honest =
    let moved = act event cache in
    let rest = (acts events moved.cache).log in
    let stands = guarded (honest-split [] log (moved.part ++ rest) honest).0 in
    let later = all-agree config events (log ++ moved.part) moved.cache sized.1 (theorem.guarded config log cache event sized.0 guarded) (subst Honest (sym (append_assoc log moved.part rest)) honest) in
    (stands.good.agrees, subst (λ (older : List Note). AllAgree config events older moved.cache) (past-append [] log moved.part) later)

-- after all calls of a new cache
pub agrees-at-last : (config : Config) (events : List CacheCall) (log : List Note) (cache : Cache) → AllCallSized events → Guarded config log cache → Honest (log ++ (acts events cache).log)
    → Agrees config (past (past [] log) (acts events cache).log) (acts events cache).cache
agrees-at-last config [] log cache sized guarded honest = (guarded (honest-split [] log [] honest).0).good.agrees
agrees-at-last config (event ∷ events) log cache sized guarded honest =
    let moved = act event cache in
    let rest = acts events moved.cache in
    let later = agrees-at-last config events (log ++ moved.part) moved.cache sized.1 (theorem.guarded config log cache event sized.0 guarded) (subst Honest (sym (append_assoc log moved.part rest.log)) honest) in
    let ends : past (past [] (log ++ moved.part)) rest.log ≡ past (past [] log) (moved.part ++ rest.log) = ap (λ (older : List Note). past older rest.log) (past-append [] log moved.part) ∙ sym (past-append (past [] log) moved.part rest.log) in
    subst (λ (older : List Note). Agrees config older rest.cache) ends later

-- ---- any calls

all-tell : (config : Config) (events : List CacheCall) (older : List Note) (cache : Cache) → AllAgree config events older cache → AllTell (steps_of events cache) older
all-tell config [] older cache g = tt
all-tell config (event ∷ events) older cache g = (call-tells config older event cache g.0, all-tell config events (past older (act event cache).part) (act event cache).cache g.1)

pub after : List CacheCall → Cache → Cache
after [] cache = cache
after (event ∷ events) cache = after events (act event cache).cache

pub steps-append : (earlier later : List CacheCall) (cache : Cache) → steps_of (earlier ++ later) cache ≡ steps_of earlier cache ++ steps_of later (after earlier cache)
unfolding after
steps-append [] later cache = refl
steps-append (event ∷ earlier) later cache = ap (λ steps. step_of event (act event cache) ∷ steps) (steps-append earlier later (act event cache).cache)

-- the log by its steps
pub log-by-steps : (events : List CacheCall) (older : List Note) (cache : Cache) → log_after (steps_of events cache) older ≡ past older (acts events cache).log
log-by-steps [] older cache = refl
log-by-steps (event ∷ events) older cache =
    let moved = act event cache in
    log-by-steps events (past older moved.part) moved.cache ∙ sym (past-append older moved.part (acts events moved.cache).log)

pub tickets-hold : TicketsHold
tickets-hold config stamps earlier later key ticket right sized honest some none lent fresh =
    let cache = new_cache config in
    let both = steps-append earlier later cache in
    let agree = all-agree config (earlier ++ later) [] cache sized (theorem.new_stands config right) honest in
    sym (ap (changes_of key) (log-by-steps (earlier ++ later) [] cache))
    ∙ (ap (λ (steps : List Step). changes_of key (log_after steps [])) both
    ∙ (fresh-over stamps (steps_of earlier cache) (steps_of later (after earlier cache)) key ticket some none
    (subst (λ (steps : List Step). AllTell steps []) both (all-tell config (earlier ++ later) [] cache agree))
    lent (subst (λ (steps : List Step). is_fresh key ticket (stamps_after steps stamps) ≡ true) both fresh)
    ∙ ap (changes_of key) (log-by-steps earlier [] cache)))
