-- A service over the machine: its deeds are events of the world that its log tells of, and so nothing stale is found.
use Rattle.std.proofs.Common.{◌≡◌, ℕ, ◌+◌, ◌≤◌, Bool, true, false, List, [], ◌∷◌, ◌++◌, length, Option, Some, None, refl, sym, ap, ◌∙◌, subst}
use Rattle.std.specs.Prelude.{if◌then◌else◌, option_map}
use Rattle.hc_types.specs.Config.{Config}
use Rattle.hc_types.specs.FlashEntry.{FlashEntry}
use Rattle.hc_types.specs.declared.refusal.Refusal.TheVariants.{ForeignHandle}
use Rattle.hc_memory.specs.Item.{Handle}
use Rattle.hc_history.specs.Note.{Note, Insert, Stored, Hit}
use Rattle.hc_history.specs.Books.{value_at}
use Rattle.hc_history.specs.Lawful.{past}
use Rattle.hc_history.proofs.Appended.{past-append}
use Rattle.hc_machine.specs.items.Items.{items_of}
use Rattle.hc_machine.specs.Nvm.{ToFind}
use Rattle.hc_machine.specs.Cache.{Cache, Moved, Answer, Replied, Waits, Refused, answers, and_then, stays, new_cache}
use Rattle.hc_machine.specs.Waiting.{live, find_reply}
use Rattle.hc_machine.specs.Calls.{insert_or_replace, begin, store, is_known, in_memory, must_wait, wait_for, used, find_now}
use Rattle.hc_invariant.specs.Good.{Agrees}
use Rattle.hc_proof.specs.frames.Midst.{none_moves}
use Rattle.hc_proof.proofs.frames.BetweenSteps.{good_is_rest}
use Rattle.hc_proof.proofs.calls.NoWaiting.{memory_tells}
use Rattle.hc_proof.proofs.calls.Serving.{there_by_map}
use Rattle.hc_machine.specs.Call.{CacheCall, Allocates, Inserts, Adds, Discards, Finds, Removes, Replies, Ticks, Writes, Fills, Reclaims, Finishes, act, acts}
use Rattle.hc_theorem.proofs.headlines.WholeRuns as theorem
use Rattle.hc_lease_log.specs.Log.{Step}
use Rattle.hc_lease_log.specs.Rows as rows
use Rattle.hc_lease_log.specs.Rows.{World, MayStore, Stores, IsNoWait}
use Rattle.hc_lease_log.proofs.Rows.{Sound, sound-after, begins-sound, no-find-is-stale}
use Rattle.hc_lease_steps.specs.Runs.{kind_of, step_of}
use Rattle.hc_lease_steps.specs.Serving.{Deed, Commit, Calls, Lend, Ask, Service, told_by, cache_by, after, run, calls_of, MayCall, AllMay, new_service, NothingStale, NoHitIsStale}
use Rattle.hc_lease_steps.proofs.Running.{call-tells, AllAgree, all-agree, agrees-at-last}
use Rattle.hc_lease_steps.proofs.Storing.{calls-store}
use Rattle.hc_lease_steps.proofs.Deleting.{removes-delete}

-- ---- deeds, as the log tells of them

abbrev events_of : List Deed → Cache → List rows.Event
events_of [] cache = []
events_of (deed ∷ deeds) cache = told_by deed cache ∷ events_of deeds (cache_by deed cache)

-- the world is that of these events
world-is : (deeds : List Deed) (s : Service) → (run deeds s).world ≡ rows.run (events_of deeds s.cache) s.world
world-is [] s = refl
world-is (deed ∷ deeds) s = world-is deeds (after deed s)

events-append : (earlier later : List Deed) (s : Service) → events_of (earlier ++ later) s.cache ≡ events_of earlier s.cache ++ events_of later (run earlier s).cache
events-append [] later s = refl
events-append (deed ∷ earlier) later s = ap (λ events. told_by deed s.cache ∷ events) (events-append earlier later (after deed s))

-- the cache and the log are those of the calls
cache-is : (deeds : List Deed) (s : Service) → (run deeds s).cache ≡ (acts (calls_of deeds) s.cache).cache
cache-is [] s = refl
cache-is (Commit key ∷ deeds) s = cache-is deeds (after (Commit key) s)
cache-is (Calls event ∷ deeds) s = cache-is deeds (after (Calls event) s)
cache-is (Lend ∷ deeds) s = cache-is deeds (after Lend s)
cache-is (Ask key ticket ∷ deeds) s = cache-is deeds (after (Ask key ticket) s)

log-is : (deeds : List Deed) (s : Service) → (run deeds s).world.log ≡ past s.world.log (acts (calls_of deeds) s.cache).log
log-is [] s = refl
log-is (Commit key ∷ deeds) s = log-is deeds (after (Commit key) s)
log-is (Calls event ∷ deeds) s = log-is deeds (after (Calls event) s) ∙ sym (past-append s.world.log (act event s.cache).part (acts (calls_of deeds) (act event s.cache).cache).log)
log-is (Lend ∷ deeds) s = log-is deeds (after Lend s)
log-is (Ask key ticket ∷ deeds) s = log-is deeds (after (Ask key ticket) s)

-- ---- what the service owes is all that the log's pattern asks

module _ (version : List ℕ → ℕ) (config : Config) where
  pub no-wait : (event : CacheCall) (answer : Answer) (w : World) → MayCall version event w → IsNoWait (kind_of event answer)
  no-wait (Allocates pool key value ttl) answer w may = tt
  no-wait (Inserts client handle) (Replied reply) w may = tt
  no-wait (Inserts client handle) answer w may = tt
  no-wait (Adds client handle) answer w may = absurd may
  no-wait (Discards handle) answer w may = tt
  no-wait (Finds client key) answer w may = tt
  no-wait (Removes client key) answer w may = tt
  no-wait (Replies call) (Replied reply) w may = tt
  no-wait (Replies call) answer w may = tt
  no-wait (Ticks moment) answer w may = tt
  no-wait Writes answer w may = tt
  no-wait Fills answer w may = tt
  no-wait Reclaims answer w may = tt
  no-wait (Finishes number result) answer w may = tt

  insert-stores : (client : ℕ) (handle : Handle) (cache : Cache) (w : World) (b : Bool) → is_known cache handle ≡ b → MayStore version w handle.key handle.value → Stores (MayStore version w) (insert_or_replace client handle cache).part
  insert-stores client handle cache w true e may =
      let replied : (insert_or_replace client handle cache).answer ≡ Replied Stored = ap (λ (t : Bool). (if t then answers (Replied Stored) (and_then (begin client (Insert handle.key handle.value handle.expiry) cache) (store handle)) else stays (Refused ForeignHandle) cache).answer) e in
      (calls-store version w client cache).replaced handle Stored replied may
  insert-stores client handle cache w false e may =
      subst (λ (t : Bool). Stores (MayStore version w) (if t then answers (Replied Stored) (and_then (begin client (Insert handle.key handle.value handle.expiry) cache) (store handle)) else stays (Refused ForeignHandle) cache).part) (sym e) tt

  pub stores : (event : CacheCall) (cache : Cache) (w : World) → MayCall version event w → Stores (MayStore version w) (act event cache).part
  stores (Allocates pool key value ttl) cache w may = (calls-store version w 0 cache).allocated pool key value ttl
  stores (Inserts client handle) cache w may = insert-stores client handle cache w (is_known cache handle) refl may
  stores (Adds client handle) cache w may = absurd may
  stores (Discards handle) cache w may = (calls-store version w 0 cache).discarded handle
  stores (Finds client key) cache w may = (calls-store version w client cache).found key
  stores (Removes client key) cache w may = (calls-store version w client cache).removed key
  stores (Replies call) cache w may = (calls-store version w 0 cache).replied call
  stores (Ticks moment) cache w may = (calls-store version w 0 cache).ticked moment
  stores Writes cache w may = (calls-store version w 0 cache).wrote
  stores Fills cache w may = (calls-store version w 0 cache).filled
  stores Reclaims cache w may = (calls-store version w 0 cache).reclaimed
  stores (Finishes number result) cache w may = (calls-store version w 0 cache).finished number result

  rows-may : (deeds : List Deed) (s : Service) → AllAgree config (calls_of deeds) s.world.log s.cache → AllMay version deeds s → rows.AllMay version (events_of deeds s.cache) s.world
  rows-may [] s agree may = tt
  rows-may (Commit key ∷ deeds) s agree may = (tt, rows-may deeds (after (Commit key) s) agree may.1)
  rows-may (Calls event ∷ deeds) s agree may =
      ((call-tells config s.world.log event s.cache agree.0, no-wait event (act event s.cache).answer s.world may.0, stores event s.cache s.world may.0), rows-may deeds (after (Calls event) s) agree.1 may.1)
  rows-may (Lend ∷ deeds) s agree may = (tt, rows-may deeds (after Lend s) agree may.1)
  rows-may (Ask key ticket ∷ deeds) s agree may = (may.0, rows-may deeds (after (Ask key ticket) s) agree may.1)

  first-may : (earlier later : List rows.Event) (w : World) → rows.AllMay version (earlier ++ later) w → rows.AllMay version earlier w
  first-may [] later w may = tt
  first-may (event ∷ earlier) later w may = (may.0, first-may earlier later (rows.after event w) may.1)

  sound-run : (n : ℕ) (events : List rows.Event) (w : World) → rows.AllMay version events w → Sound n w → Sound n (rows.run events w)
  sound-run n [] w may s = s
  sound-run n (event ∷ events) w may s = sound-run n events (rows.after event w) may.1 (sound-after version n event w may.0 s)

  -- a remove in the midst of the deeds is a delete, and what the map has under its key after them isn't stale
  stale-never : (earlier later : List Deed) (client : ℕ) (key value : List ℕ) (s : Service) → rows.Begins s.world
      → rows.AllMay version (events_of (earlier ++ Calls (Removes client key) ∷ later) s.cache) s.world
      → value_at config.flash (run (earlier ++ Calls (Removes client key) ∷ later) s).world.log key ≡ Some value
      → (run earlier s).world.rows key ≤ version value
  stale-never earlier later client key value s begins may found =
      let cache = (run earlier s).cache in
      let moved = act (Removes client key) cache in
      let before = events_of earlier s.cache in
      let behind = events_of later moved.cache in
      let step : Step = step_of (Removes client key) moved in
      let parts : events_of (earlier ++ Calls (Removes client key) ∷ later) s.cache ≡ before ++ rows.Steps step ∷ behind = events-append earlier (Calls (Removes client key) ∷ later) s in
      let may_so : rows.AllMay version (before ++ rows.Steps step ∷ behind) s.world = subst (λ events. rows.AllMay version events s.world) parts may in
      let sound = sound-run (length s.world.stamps.slots) before s.world (first-may before (rows.Steps step ∷ behind) s.world may_so) (begins-sound s.world begins) in
      let at_last : (run (earlier ++ Calls (Removes client key) ∷ later) s).world ≡ rows.run (before ++ rows.Steps step ∷ behind) s.world = world-is (earlier ++ Calls (Removes client key) ∷ later) s ∙ ap (λ events. rows.run events s.world) parts in
      subst (λ (w : World). w.rows key ≤ version value) (sym (world-is earlier s))
      (no-find-is-stale version config.flash s.world before behind step key value begins may_so
      (removes-delete config.flash (rows.run before s.world).log client key cache sound.opens)
      (subst (λ (w : World). value_at config.flash w.log key ≡ Some value) at_last found))

pub nothing-stale : NothingStale
nothing-stale version config stamps versions earlier later client key value serves found =
    let s = new_service config stamps versions in
    let deeds = earlier ++ Calls (Removes client key) ∷ later in
    let agree = all-agree config (calls_of deeds) [] (new_cache config) serves.sized (theorem.new_stands config serves.right) serves.honest in
    stale-never version config earlier later client key value s (record { slots = serves.slots; log = refl; lent = refl; loads = refl }) (rows-may version config deeds s agree serves.may) found

-- ---- what a find hits is what the map has

hit-value : (v : Option FlashEntry) (value : List ℕ) → ◌≡◌ {A = Answer} (Replied (find_reply v)) (Replied (Hit value)) → option_map (λ (e : FlashEntry). e.value) v ≡ Some value
hit-value None value e = absurd cc
hit-value (Some x) value e = let same : x.value ≡ value = cc in ap Some same

abbrev pub found_if : Bool → List ℕ → Cache → Moved
found_if t key cache = if t then answers (Waits cache.calls) (wait_for key ToFind cache) else find_now (find_reply (live cache.now (in_memory cache key))) (used key cache)

pub hit-is : (config : Config) (older : List Note) (cache : Cache) (finder : ℕ) (key value : List ℕ) (b : Bool) → must_wait cache key ≡ b → Agrees config older cache
    → (found_if b key (record cache { calls = cache.calls + 1 })).answer ≡ Replied (Hit value) → value_at config.flash older key ≡ Some value
hit-is config older cache finder key value true w g e = absurd cc
hit-is config older cache finder key value false w g e =
    let r = good_is_rest config older cache g in
    let has = there_by_map config older cache key (in_memory cache key) (items_of cache.memory.pools) none_moves r (memory_tells config older cache none_moves key r.flash (g.placed key) w) in
    sym has ∙ hit-value (live cache.now (in_memory cache key)) value e

pub no-hit-is-stale : NoHitIsStale
no-hit-is-stale version config stamps versions earlier later client finder key value serves hit =
    let s = new_service config stamps versions in
    let deeds = earlier ++ Calls (Removes client key) ∷ later in
    let last = run deeds s in
    let agrees : Agrees config last.world.log last.cache =
    subst (λ (older : List Note). Agrees config older last.cache) (sym (log-is deeds s))
    (subst (λ (c : Cache). Agrees config (past [] (acts (calls_of deeds) (new_cache config)).log) c) (sym (cache-is deeds s))
    (agrees-at-last config (calls_of deeds) [] (new_cache config) serves.sized (theorem.new_stands config serves.right) serves.honest)) in
    nothing-stale version config stamps versions earlier later client key value serves (hit-is config last.world.log last.cache finder key value (must_wait last.cache key) refl agrees hit)
