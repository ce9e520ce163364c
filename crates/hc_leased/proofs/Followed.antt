-- A service with a cache with leases is one over the machine, and so nothing stale is found.
use Rattle.std.proofs.Common.{◌≡◌, inl, inr, ℕ, ◌≤◌, List, [], ◌∷◌, ◌++◌, refl, sym, ap, ◌∙◌, subst}
use Rattle.hc_history.specs.Note.{Note, Hit}
use Rattle.hc_history.specs.Lawful.{past}
use Rattle.hc_history.specs.Honest.{Honest}
use Rattle.hc_history.proofs.Appended.{past-append}
use Rattle.std.proofs.lemmas.List.{append_assoc}
use Rattle.hc_machine.specs.Cache.{Cache, Answer, Opened, Replied, Waits, new_cache}
use Rattle.hc_machine.specs.Evicting.{allocate}
use Rattle.hc_machine.specs.Calls.{find, take_reply}
use Rattle.hc_core.specs.Holds.{AreShort}
use Rattle.hc_machine.specs.Call.{CacheCall, Allocates, Inserts, Adds, Discards, Finds, Removes, act, acts}
use Rattle.hc_theorem.specs.runs.Honesty.{AllCallSized}
use Rattle.hc_lease.specs.Stamps.{Stamps}
use Rattle.hc_lease_log.specs.Rows as rows
use Rattle.hc_lease_log.specs.Rows.{World}
use Rattle.hc_lease_steps.specs.Runs.{stamps_by}
use Rattle.hc_lease_steps.specs.Serving as steps
use Rattle.hc_lease_steps.proofs.Serving.{no-hit-is-stale}
use Rattle.hc_lease_steps.proofs.Replying.{no-reply-is-stale}
use Rattle.hc_leased.specs.Leased.{Leased}
use Rattle.hc_leased.specs.Runs.{Call, Looks, Stores, Sets, GivesUp, Puts, Tries, Fails, Deletes, Takes, Forgets, Nothing, IsLook, Does, with_handle, events_of, IsRun, Chain, all_events}
use Rattle.hc_leased.specs.Serving.{Service, Deed, Commit, Calls, Lend, Ask, MayStore, MayCall, Happens, Follow, calls_of, LeasedNeverStale, LeasedRepliesNeverStale}
use Rattle.hc_leased.proofs.Runs.{roomed, stamps-roomed, calls-are-runs, opened-key, opened-value}
use Rattle.hc_leased.proofs.Ticketing.{chain-sized}

-- ---- the same service, over the machine

-- its stamps have no room for adds, which is another matter
abbrev bare : Stamps → Stamps
bare stamps = roomed 0 stamps

abbrev twin : List Note → Service → steps.Service
twin log s = record { world = record { rows = s.rows; log = log; stamps = bare s.leased.stamps; lent = s.lent; loads = s.loads }; cache = s.leased.logged.cache }

abbrev as_calls : List CacheCall → List steps.Deed
as_calls [] = []
as_calls (event ∷ events) = steps.Calls event ∷ as_calls events

abbrev deeds_by : Deed → Cache → List steps.Deed
deeds_by (Commit key) cache = steps.Commit key ∷ []
deeds_by (Calls call) cache = as_calls (events_of call cache)
deeds_by Lend cache = steps.Lend ∷ []
deeds_by (Ask key ticket) cache = steps.Ask key ticket ∷ []

abbrev cache_by : Deed → Cache → Cache
cache_by (Calls call) cache = (acts (events_of call cache) cache).cache
cache_by deed cache = cache

abbrev all_deeds : List Deed → Cache → List steps.Deed
all_deeds [] cache = []
all_deeds (deed ∷ deeds) cache = deeds_by deed cache ++ all_deeds deeds (cache_by deed cache)

abbrev log_by : Deed → Cache → List Note → List Note
log_by (Calls call) cache log = past log (acts (events_of call cache) cache).log
log_by deed cache log = log

run-append : (one two : List steps.Deed) (s : steps.Service) → steps.run (one ++ two) s ≡ steps.run two (steps.run one s)
run-append [] two s = refl
run-append (deed ∷ one) two s = run-append one two (steps.after deed s)

may-append : (version : List ℕ → ℕ) (one two : List steps.Deed) (s : steps.Service) → steps.AllMay version one s → steps.AllMay version two (steps.run one s) → steps.AllMay version (one ++ two) s
may-append version [] two s h k = k
may-append version (deed ∷ one) two s h k = (h.0, may-append version one two (steps.after deed s) h.1 k)

-- ---- calls of the machine, one after the other

abbrev called : List CacheCall → steps.Service → steps.Service
called events t = record { world = record t.world { log = past t.world.log (acts events t.cache).log; stamps = stamps_by events t.cache t.world.stamps }; cache = (acts events t.cache).cache }

calls-run : (events : List CacheCall) (t : steps.Service) → steps.run (as_calls events) t ≡ called events t
calls-run [] t = refl
calls-run (event ∷ events) t =
    let moved = act event t.cache in
    let rest = acts events moved.cache in
    calls-run events (steps.after (steps.Calls event) t)
    ∙ ap (λ (log : List Note). record { world = record t.world { log = log; stamps = stamps_by (event ∷ events) t.cache t.world.stamps }; cache = rest.cache }) (sym (past-append t.world.log moved.part rest.log))

calls-of-calls : (events : List CacheCall) → steps.calls_of (as_calls events) ≡ events
calls-of-calls [] = refl
calls-of-calls (event ∷ events) = ap (λ rest. event ∷ rest) (calls-of-calls events)

calls-append : (one two : List steps.Deed) → steps.calls_of (one ++ two) ≡ steps.calls_of one ++ steps.calls_of two
calls-append [] two = refl
calls-append (steps.Commit key ∷ one) two = calls-append one two
calls-append (steps.Calls event ∷ one) two = ap (λ rest. event ∷ rest) (calls-append one two)
calls-append (steps.Lend ∷ one) two = calls-append one two
calls-append (steps.Ask key ticket ∷ one) two = calls-append one two

all-calls : (deeds : List Deed) (cache : Cache) → steps.calls_of (all_deeds deeds cache) ≡ all_events (calls_of deeds) cache
all-calls [] cache = refl
all-calls (Commit key ∷ deeds) cache = all-calls deeds cache
all-calls (Calls call ∷ deeds) cache =
    let events = events_of call cache in
    let next = (acts events cache).cache in
    calls-append (as_calls events) (all_deeds deeds next) ∙ (ap (λ first. first ++ steps.calls_of (all_deeds deeds next)) (calls-of-calls events) ∙ ap (λ rest. events ++ rest) (all-calls deeds next))
all-calls (Lend ∷ deeds) cache = all-calls deeds cache
all-calls (Ask key ticket ∷ deeds) cache = all-calls deeds cache

-- ---- what may be stored

stored-as : (version : List ℕ → ℕ) (s : Service) (log : List Note) (key value : List ℕ) → MayStore version s key value → rows.MayStore version (twin log s).world key value
stored-as version s log key value (inl l) = inl (record { load = l.load; asked = l.asked; own = l.own; fresh = l.fresh; least = l.least })
stored-as version s log key value (inr h) = inr h

look-may : (version : List ℕ → ℕ) (event : CacheCall) (w : World) → IsLook event → steps.MayCall version event w
look-may version (Inserts client handle) w look = absurd look
look-may version (Adds client handle) w look = absurd look
look-may version event w look = tt

call-may : (version : List ℕ → ℕ) (call : Call) (old new : Service) (log : List Note) → MayCall version call old → Does call old.leased new.leased → steps.AllMay version (as_calls (events_of call old.leased.logged.cache)) (twin log old)
call-may version (Looks event answer) old new log may does = (look-may version event (twin log old).world does.0, tt)
call-may version (Stores client handle) old new log may does = (stored-as version old log handle.key handle.value may, tt)
call-may version (Sets pool key value ttl) old new log may does = (tt, go (allocate pool key value ttl old.leased.logged.cache).answer refl)
  where
    go : (a : Answer) → (allocate pool key value ttl old.leased.logged.cache).answer ≡ a → steps.AllMay version (as_calls (with_handle a (λ handle. Inserts 0 handle ∷ []))) (steps.after (steps.Calls (Allocates pool key value ttl)) (twin log old))
    go (Opened handle) e =
        let stored = stored-as version old (past log (allocate pool key value ttl old.leased.logged.cache).part) key value may in (
          subst (λ (k : List ℕ). rows.MayStore version (steps.after (steps.Calls (Allocates pool key value ttl)) (twin log old)).world k handle.value) (sym (opened-key pool key value ttl old.leased.logged.cache handle e))
              (subst (λ (v : List ℕ). rows.MayStore version (steps.after (steps.Calls (Allocates pool key value ttl)) (twin log old)).world key v) (sym (opened-value pool key value ttl old.leased.logged.cache handle e)) stored),
          tt,
        )
    go a e = tt
call-may version (GivesUp pool key value ttl) old new log may does = (tt, go (allocate pool key value ttl old.leased.logged.cache).answer)
  where
    go : (a : Answer) → steps.AllMay version (as_calls (with_handle a (λ handle. Discards handle ∷ []))) (steps.after (steps.Calls (Allocates pool key value ttl)) (twin log old))
    go (Opened handle) = (tt, tt)
    go a = tt
call-may version (Puts client handle done) old new log may does = absurd may
call-may version (Tries pool key value ttl done) old new log may does = absurd may
call-may version (Fails pool key value ttl) old new log may does = absurd may
call-may version (Deletes client key answer) old new log may does = (tt, tt)
call-may version (Takes call reply) old new log may does = (tt, tt)
call-may version Forgets old new log may does = tt
call-may version Nothing old new log may does = tt

-- ---- one deed

deed-may : (version : List ℕ → ℕ) (deed : Deed) (old new : Service) (log : List Note) → Happens version deed old new → steps.AllMay version (deeds_by deed old.leased.logged.cache) (twin log old)
deed-may version (Commit key) old new log happens = (tt, tt)
deed-may version (Calls call) old new log happens = call-may version call old new log happens.0 happens.1
deed-may version Lend old new log happens = (tt, tt)
deed-may version (Ask key ticket) old new log happens = (happens.0, tt)

deed-cache : (version : List ℕ → ℕ) (deed : Deed) (old new : Service) → Happens version deed old new → new.leased.logged.cache ≡ cache_by deed old.leased.logged.cache
deed-cache version (Commit key) old new happens = ap (λ (s : Service). s.leased.logged.cache) happens
deed-cache version (Calls call) old new happens = (calls-are-runs call old.leased new.leased happens.1).cache
deed-cache version Lend old new happens = ap (λ (s : Service). s.leased.logged.cache) happens
deed-cache version (Ask key ticket) old new happens = ap (λ (s : Service). s.leased.logged.cache) happens.1

deed-run : (version : List ℕ → ℕ) (deed : Deed) (old new : Service) (log : List Note) → Happens version deed old new → twin (log_by deed old.leased.logged.cache log) new ≡ steps.run (deeds_by deed old.leased.logged.cache) (twin log old)
deed-run version (Commit key) old new log happens = ap (λ (s : Service). twin log s) happens
deed-run version (Calls call) old new log happens =
    let cache = old.leased.logged.cache in
    let events = events_of call cache in
    let log' = past log (acts events cache).log in
    let run : IsRun events old.leased new.leased = calls-are-runs call old.leased new.leased happens.1 in
    let stamps : bare new.leased.stamps ≡ stamps_by events cache (bare old.leased.stamps) = ap bare run.stamps ∙ sym (stamps-roomed 0 events cache old.leased.stamps) in
    ap (λ (s : Service). twin log' s) happens.2
    ∙ ((λ i. record { world = record { rows = old.rows; log = log'; stamps = stamps i; lent = old.lent; loads = old.loads }; cache = run.cache i })
    ∙ sym (calls-run events (twin log old)))
deed-run version Lend old new log happens = ap (λ (s : Service). twin log s) happens
deed-run version (Ask key ticket) old new log happens = ap (λ (s : Service). twin log s) happens.1

-- ---- one deed after the other

record Twins (deeds : List steps.Deed) (log : List Note) (old new : Service) : Type 0 where
  log' : List Note
  same : twin log' new ≡ steps.run deeds (twin log old)

-- a service that such a one is the same as
record Reached (new : Service) (t : steps.Service) : Type 0 where
  log' : List Note
  same : twin log' new ≡ t

caches : List Deed → Cache → Cache
caches [] cache = cache
caches (deed ∷ deeds) cache = caches deeds (cache_by deed cache)

deeds-append : (one two : List Deed) (cache : Cache) → all_deeds (one ++ two) cache ≡ all_deeds one cache ++ all_deeds two (caches one cache)
unfolding caches
deeds-append [] two cache = refl
deeds-append (deed ∷ one) two cache = ap (λ rest. deeds_by deed cache ++ rest) (deeds-append one two (cache_by deed cache)) ∙ sym (append_assoc (deeds_by deed cache) (all_deeds one (cache_by deed cache)) (all_deeds two (caches one (cache_by deed cache))))

module _ (version : List ℕ → ℕ) where
  follow-cache : (deeds : List Deed) (old new : Service) → Follow version deeds old new → new.leased.logged.cache ≡ caches deeds old.leased.logged.cache
  unfolding caches
  follow-cache [] old new e = ap (λ (s : Service). s.leased.logged.cache) e
  follow-cache (deed ∷ deeds) old new follow = follow-cache deeds follow.0 new follow.1.1 ∙ ap (caches deeds) (deed-cache version deed old follow.0 follow.1.0)

  follow-run : (deeds : List Deed) (old new : Service) (log : List Note) → Follow version deeds old new → Twins (all_deeds deeds old.leased.logged.cache) log old new
  follow-run [] old new log e = record { log' = log; same = ap (λ (s : Service). twin log s) e }
  follow-run (deed ∷ deeds) old new log follow =
      let cache = old.leased.logged.cache in
      let middle = follow.0 in
      let here = deeds_by deed cache in
      let first = deed-run version deed old middle log follow.1.0 in
      let rest = follow-run deeds middle new (log_by deed cache log) follow.1.1 in
      record {
        log' = rest.log';
        same = rest.same
            ∙ (ap (steps.run (all_deeds deeds middle.leased.logged.cache)) first
            ∙ (ap (λ (c : Cache). steps.run (all_deeds deeds c) (steps.run here (twin log old))) (deed-cache version deed old middle follow.1.0)
            ∙ sym (run-append here (all_deeds deeds (cache_by deed cache)) (twin log old))));
      }

  follow-may : (deeds : List Deed) (old new : Service) (log : List Note) → Follow version deeds old new → steps.AllMay version (all_deeds deeds old.leased.logged.cache) (twin log old)
  follow-may [] old new log e = tt
  follow-may (deed ∷ deeds) old new log follow =
      let cache = old.leased.logged.cache in
      let middle = follow.0 in
      let here = deeds_by deed cache in
      let rest = follow-may deeds middle new (log_by deed cache log) follow.1.1 in
      may-append version here (all_deeds deeds (cache_by deed cache)) (twin log old) (deed-may version deed old middle log follow.1.0)
      (subst (λ (c : Cache). steps.AllMay version (all_deeds deeds c) (steps.run here (twin log old))) (deed-cache version deed old middle follow.1.0)
      (subst (λ (t : steps.Service). steps.AllMay version (all_deeds deeds middle.leased.logged.cache) t) (deed-run version deed old middle log follow.1.0) rest))

  follow-chain : (deeds : List Deed) (old new : Service) → Follow version deeds old new → Chain (calls_of deeds) old.leased new.leased
  follow-chain [] old new e = ap (λ (s : Service). s.leased) e
  follow-chain (Commit key ∷ deeds) old new follow = subst (λ (l : Leased). Chain (calls_of deeds) l new.leased) (ap (λ (s : Service). s.leased) follow.1.0) (follow-chain deeds follow.0 new follow.1.1)
  follow-chain (Calls call ∷ deeds) old new follow = (follow.0.leased, (follow.1.0.1, follow-chain deeds follow.0 new follow.1.1))
  follow-chain (Lend ∷ deeds) old new follow = subst (λ (l : Leased). Chain (calls_of deeds) l new.leased) (ap (λ (s : Service). s.leased) follow.1.0) (follow-chain deeds follow.0 new follow.1.1)
  follow-chain (Ask key ticket ∷ deeds) old new follow = subst (λ (l : Leased). Chain (calls_of deeds) l new.leased) (ap (λ (s : Service). s.leased) follow.1.0.1) (follow-chain deeds follow.0 new follow.1.1)

  follow-append : (one two : List Deed) (a b c : Service) → Follow version one a b → Follow version two b c → Follow version (one ++ two) a c
  follow-append [] two a b c first second = subst (λ (s : Service). Follow version two s c) first second
  follow-append (deed ∷ one) two a b c first second = (first.0, (first.1.0, follow-append one two first.0 b c first.1.1 second))

-- ---- nothing stale is found

pub leased-never-stale : LeasedNeverStale
leased-never-stale version config earlier later first before last client finder key value answer begins one two fits honest hit =
    let new = new_cache config in
    let delete : Deed = Calls (Deletes client key answer) in
    let deeds = earlier ++ delete ∷ later in
    let whole : Follow version deeds first last = follow-append version earlier (delete ∷ later) first before last one two in
    let start : first.leased.logged.cache ≡ new = begins.leased.cache in
    let service : steps.Service = steps.new_service config (bare first.leased.stamps) first.rows in
    let starts : twin [] first ≡ service = λ i. record { world = record { rows = first.rows; log = []; stamps = bare first.leased.stamps; lent = begins.lent i; loads = begins.loads i }; cache = start i } in
    let e-one = all_deeds earlier new in
    let e-two = all_deeds later (cache_by delete (caches earlier new)) in
    let parts : all_deeds deeds new ≡ e-one ++ steps.Calls (Removes client key) ∷ e-two = deeds-append earlier (delete ∷ later) new in
    let first-run = follow-run version earlier first before [] one in
    let before-is : twin first-run.log' before ≡ steps.run e-one service = subst (λ (c : Cache). twin first-run.log' before ≡ steps.run (all_deeds earlier c) (twin [] first)) start first-run.same ∙ ap (steps.run e-one) starts in
    let last-run = follow-run version deeds first last [] whole in
    let last-is : twin last-run.log' last ≡ steps.run (e-one ++ steps.Calls (Removes client key) ∷ e-two) service =
    subst (λ (c : Cache). twin last-run.log' last ≡ steps.run (all_deeds deeds c) (twin [] first)) start last-run.same
    ∙ (ap (steps.run (all_deeds deeds new)) starts ∙ ap (λ ds. steps.run ds service) parts) in
    let may : steps.AllMay version (e-one ++ steps.Calls (Removes client key) ∷ e-two) service =
    subst (λ ds. steps.AllMay version ds service) parts
    (subst (λ (t : steps.Service). steps.AllMay version (all_deeds deeds new) t) starts
    (subst (λ (c : Cache). steps.AllMay version (all_deeds deeds c) (twin [] first)) start (follow-may version deeds first last [] whole))) in
    let events : all_events (calls_of deeds) new ≡ steps.calls_of (e-one ++ steps.Calls (Removes client key) ∷ e-two) = sym (all-calls deeds new) ∙ ap steps.calls_of parts in
    let sized : AllCallSized (all_events (calls_of deeds) new) =
    subst (λ (c : Cache). AllCallSized (all_events (calls_of deeds) c)) start
    (chain-sized (calls_of deeds) first.leased last.leased (follow-chain version deeds first last whole) fits (subst (λ (c : Cache). AreShort c.memory.charges) (sym start) refl)) in
    let serves : steps.Serves version config (e-one ++ steps.Calls (Removes client key) ∷ e-two) service = record {
      right = begins.leased.right;
      sized = subst AllCallSized events sized;
      honest = subst (λ (es : List CacheCall). Honest (acts es new).log) events honest;
      slots = begins.leased.slots;
      may = may;
    } in
    let hits = subst (λ (t : steps.Service). (find finder key t.cache).answer ≡ Replied (Hit value)) last-is hit in
    subst (λ (t : steps.Service). t.world.rows key ≤ version value) (sym before-is)
    (no-hit-is-stale version config (bare first.leased.stamps) first.rows e-one e-two client finder key value serves hits)

-- ---- nor by a find that waits

-- the cache after a deed
deed-keeps : (deed : Deed) (t : steps.Service) → (steps.run (deeds_by deed t.cache) t).cache ≡ cache_by deed t.cache
deed-keeps (Commit key) t = refl
deed-keeps (Calls call) t = ap (λ (s : steps.Service). s.cache) (calls-run (events_of call t.cache) t)
deed-keeps Lend t = refl
deed-keeps (Ask key ticket) t = refl

deeds-split : (one two : List Deed) (t : steps.Service) → all_deeds (one ++ two) t.cache ≡ all_deeds one t.cache ++ all_deeds two (steps.run (all_deeds one t.cache) t).cache
deeds-split [] two t = refl
deeds-split (deed ∷ one) two t =
    let here = deeds_by deed t.cache in
    let next = steps.run here t in
    let then = subst (λ (c : Cache). all_deeds (one ++ two) c ≡ all_deeds one c ++ all_deeds two (steps.run (all_deeds one c) next).cache) (deed-keeps deed t) (deeds-split one two next) in
    let c = cache_by deed t.cache in
    ap (λ rest. here ++ rest) then
    ∙ (ap (λ (s : steps.Service). here ++ (all_deeds one c ++ all_deeds two s.cache)) (sym (run-append here (all_deeds one c) t))
    ∙ sym (append_assoc here (all_deeds one c) (all_deeds two (steps.run (here ++ all_deeds one c) t).cache)))

follow-from : (version : List ℕ → ℕ) (deeds : List Deed) (old new : Service) (log : List Note) (t : steps.Service) → twin log old ≡ t → Follow version deeds old new → Reached new (steps.run (all_deeds deeds t.cache) t)
follow-from version deeds old new log t e follow =
    let run = follow-run version deeds old new log follow in
    record { log' = run.log'; same = subst (λ (s : steps.Service). twin run.log' new ≡ steps.run (all_deeds deeds s.cache) s) e run.same }

pub leased-replies-never-stale : LeasedRepliesNeverStale
leased-replies-never-stale version config earlier between later first before asked waiting last client finder call key value answer begins one two waits three fits honest hit =
    let new = new_cache config in
    let delete : Deed = Calls (Deletes client key answer) in
    let finds : Deed = Calls (Looks (Finds finder key) (Waits call)) in
    let deeds = earlier ++ delete ∷ (between ++ finds ∷ later) in
    let R : steps.Deed = steps.Calls (Removes client key) in
    let F : steps.Deed = steps.Calls (Finds finder key) in
    let whole : Follow version deeds first last = follow-append version earlier (delete ∷ (between ++ finds ∷ later)) first before last one
    (follow-append version (delete ∷ between) (finds ∷ later) before asked last two (waiting, (waits, three))) in
    let start : first.leased.logged.cache ≡ new = begins.leased.cache in
    let service : steps.Service = steps.new_service config (bare first.leased.stamps) first.rows in
    let starts : twin [] first ≡ service = λ i. record { world = record { rows = first.rows; log = []; stamps = bare first.leased.stamps; lent = begins.lent i; loads = begins.loads i }; cache = start i } in
    let t-one = steps.run (all_deeds earlier new) service in
    let t-two = steps.after R t-one in
    let t-three = steps.run (all_deeds between t-two.cache) t-two in
    let t-four = steps.after F t-three in
    let t-five = steps.run (all_deeds later t-four.cache) t-four in
    let r-one : Reached before t-one = follow-from version earlier first before [] service starts one in
    let r-three : Reached asked t-three = follow-from version (delete ∷ between) before asked r-one.log' t-one r-one.same two in
    let r-four : twin (log_by finds asked.leased.logged.cache r-three.log') waiting ≡ t-four = deed-run version finds asked waiting r-three.log' waits ∙ ap (steps.after F) r-three.same in
    let r-five : Reached last t-five = follow-from version later waiting last (log_by finds asked.leased.logged.cache r-three.log') t-four r-four three in
    let all = all_deeds earlier new ++ R ∷ (all_deeds between t-two.cache ++ F ∷ all_deeds later t-four.cache) in
    let parts : all_deeds deeds new ≡ all =
    deeds-split earlier (delete ∷ (between ++ finds ∷ later)) service
    ∙ ap (λ rest. all_deeds earlier new ++ R ∷ rest) (deeds-split between (finds ∷ later) t-two) in
    let may : steps.AllMay version all service =
    subst (λ ds. steps.AllMay version ds service) parts
    (subst (λ (t : steps.Service). steps.AllMay version (all_deeds deeds new) t) starts
    (subst (λ (c : Cache). steps.AllMay version (all_deeds deeds c) (twin [] first)) start (follow-may version deeds first last [] whole))) in
    let events : all_events (calls_of deeds) new ≡ steps.calls_of all = sym (all-calls deeds new) ∙ ap steps.calls_of parts in
    let sized : AllCallSized (all_events (calls_of deeds) new) =
    subst (λ (c : Cache). AllCallSized (all_events (calls_of deeds) c)) start
    (chain-sized (calls_of deeds) first.leased last.leased (follow-chain version deeds first last whole) fits (subst (λ (c : Cache). AreShort c.memory.charges) (sym start) refl)) in
    let serves : steps.Serves version config all service = record {
      right = begins.leased.right;
      sized = subst AllCallSized events sized;
      honest = subst (λ (es : List CacheCall). Honest (acts es new).log) events honest;
      slots = begins.leased.slots;
      may = may;
    } in
    let waits-so : (find finder key t-three.cache).answer ≡ Waits call = subst (λ (t : steps.Service). (find finder key t.cache).answer ≡ Waits call) r-three.same (sym waits.1.1.answer_is) in
    let hits : (take_reply call t-five.cache).answer ≡ Replied (Hit value) = subst (λ (t : steps.Service). (take_reply call t.cache).answer ≡ Replied (Hit value)) r-five.same hit in
    subst (λ (t : steps.Service). t.world.rows key ≤ version value) (sym r-one.same)
    (no-reply-is-stale version config (bare first.leased.stamps) first.rows (all_deeds earlier new) (all_deeds between t-two.cache) (all_deeds later t-four.cache) client finder call key value serves waits-so hits)
