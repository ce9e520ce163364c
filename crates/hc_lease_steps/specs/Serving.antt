-- A service with a cache before its database, over the machine: what it finds is never older than what was committed
-- before a delete that was answered.
use Rattle.std.specs.Prelude.{◌≡◌, ℕ, ◌<◌, ◌≤◌, List, [], ◌∷◌, ◌++◌, length, Some, None}
use Rattle.hc_types.specs.Config.{Config}
use Rattle.hc_types.specs.Limits.{first_wrong}
use Rattle.hc_history.specs.Note.{Hit}
use Rattle.hc_history.specs.Books.{value_at}
use Rattle.hc_history.specs.Honest.{Honest}
use Rattle.hc_machine.specs.Cache.{Cache, Replied, Waits, new_cache}
use Rattle.hc_machine.specs.Calls.{find, take_reply}
use Rattle.hc_machine.specs.Call.{CacheCall, Inserts, Adds, Finds, Removes, act, acts}
use Rattle.hc_theorem.specs.runs.Honesty.{AllCallSized}
use Rattle.hc_lease.specs.Stamps.{Stamps}
use Rattle.hc_lease.specs.Service.{IsAmong}
use Rattle.hc_lease_log.specs.Rows as rows
use Rattle.hc_lease_log.specs.Rows.{World, MayStore}
use Rattle.hc_lease_steps.specs.Runs.{step_of}

-- what happens, one after the other
pub data Deed : Type 0 where
  -- a change of the row is committed in the database
  Commit : (key : List ℕ) → Deed
  -- a call of the cache, by a client or a worker
  Calls : (event : CacheCall) → Deed
  -- a ticket is handed out
  Lend : Deed
  -- the database is asked for the row, by someone who has the ticket
  Ask : (key : List ℕ) (ticket : ℕ) → Deed

-- the service's world as its log tells of it, and the cache
pub record Service : Type 0 where
  pub world : World
  pub cache : Cache

-- what is told of a deed
abbrev pub told_by : Deed → Cache → rows.Event
told_by (Commit key) cache = rows.Commit key
told_by (Calls event) cache = rows.Steps (step_of event (act event cache))
told_by Lend cache = rows.Lend
told_by (Ask key ticket) cache = rows.Ask key ticket

abbrev pub cache_by : Deed → Cache → Cache
cache_by (Calls event) cache = (act event cache).cache
cache_by deed cache = cache

abbrev pub after : Deed → Service → Service
after deed service = record { world = rows.after (told_by deed service.cache) service.world; cache = cache_by deed service.cache }

abbrev pub run : List Deed → Service → Service
run [] service = service
run (deed ∷ deeds) service = run deeds (after deed service)

-- the calls of the cache among them
abbrev pub calls_of : List Deed → List CacheCall
calls_of [] = []
calls_of (Calls event ∷ deeds) = event ∷ calls_of deeds
calls_of (deed ∷ deeds) = calls_of deeds

-- What the service and its database owe: who asks the database has a ticket already; what is stored is what the
-- database answered with a ticket that is fresh, no older than what was committed before it was asked, or the newest
-- row, while nobody else can change it; and nothing is added.
abbrev pub MayCall : (List ℕ → ℕ) → CacheCall → World → Type 0
MayCall version (Inserts client handle) world = MayStore version world handle.key handle.value
MayCall version (Adds client handle) world = ⊥
MayCall version event world = Unit {0}

abbrev pub May : (List ℕ → ℕ) → Deed → World → Type 0
May version (Calls event) world = MayCall version event world
May version (Ask key ticket) world = IsAmong ticket world.lent
May version deed world = Unit {0}

abbrev pub AllMay : (List ℕ → ℕ) → List Deed → Service → Type 0
AllMay version [] service = Unit {0}
AllMay version (deed ∷ deeds) service = May version deed service.world × AllMay version deeds (after deed service)

-- a new cache, whose table of stamps is new too; the rows of the database are what they are
abbrev pub new_service : Config → Stamps → (List ℕ → ℕ) → Service
new_service config stamps versions = record { world = record { rows = versions; log = []; stamps = stamps; lent = []; loads = [] }; cache = new_cache config }

-- what holds of a service from its beginning on, as long as the device tells no lie
pub record Serves (version : List ℕ → ℕ) (config : Config) (deeds : List Deed) (begins : Service) : Type 0 where
  pub right : first_wrong config ≡ None
  pub sized : AllCallSized (calls_of deeds)
  pub honest : Honest (acts (calls_of deeds) (new_cache config)).log
  pub slots : 0 < length begins.world.stamps.slots
  pub may : AllMay version deeds begins

-- Once a remove of a key is answered, the map has no value under it whose row is older than what was committed before
-- that remove: whatever clients and workers do, and in whatever order. `version` is what a stored value tells of its
-- row.
abbrev pub NothingStale : Type 0
NothingStale = (version : List ℕ → ℕ) (config : Config) (stamps : Stamps) (versions : List ℕ → ℕ) (earlier later : List Deed) (client : ℕ) (key value : List ℕ)
    → Serves version config (earlier ++ Calls (Removes client key) ∷ later) (new_service config stamps versions)
    → value_at config.flash (run (earlier ++ Calls (Removes client key) ∷ later) (new_service config stamps versions)).world.log key ≡ Some value
    → (run earlier (new_service config stamps versions)).world.rows key ≤ version value

-- So no find that is answered at once hits such a value.
abbrev pub NoHitIsStale : Type 0
NoHitIsStale = (version : List ℕ → ℕ) (config : Config) (stamps : Stamps) (versions : List ℕ → ℕ) (earlier later : List Deed) (client finder : ℕ) (key value : List ℕ)
    → Serves version config (earlier ++ Calls (Removes client key) ∷ later) (new_service config stamps versions)
    → (find finder key (run (earlier ++ Calls (Removes client key) ∷ later) (new_service config stamps versions)).cache).answer ≡ Replied (Hit value)
    → (run earlier (new_service config stamps versions)).world.rows key ≤ version value

-- Nor does a find that waits for flash, where it was begun after that remove: its reply, whenever it is taken, brings
-- no such value.
abbrev pub NoReplyIsStale : Type 0
NoReplyIsStale = (version : List ℕ → ℕ) (config : Config) (stamps : Stamps) (versions : List ℕ → ℕ) (earlier between later : List Deed) (client finder call : ℕ) (key value : List ℕ)
    → Serves version config (earlier ++ Calls (Removes client key) ∷ (between ++ Calls (Finds finder key) ∷ later)) (new_service config stamps versions)
    → (find finder key (run between (after (Calls (Removes client key)) (run earlier (new_service config stamps versions)))).cache).answer ≡ Waits call
    → (take_reply call (run later (after (Calls (Finds finder key)) (run between (after (Calls (Removes client key)) (run earlier (new_service config stamps versions)))))).cache).answer ≡ Replied (Hit value)
    → (run earlier (new_service config stamps versions)).world.rows key ≤ version value
