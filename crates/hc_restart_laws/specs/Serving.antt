-- A service whose cache is closed and goes on: what it finds is never older than what was committed before a remove that was
-- answered, in whichever run that was.
use Rattle.std.specs.Prelude.{◌≡◌, ℕ, ◌<◌, ◌≤◌, List, [], ◌∷◌, ◌++◌, length, Some, None}
use Rattle.hc_types.specs.Config.{Config}
use Rattle.hc_types.specs.Limits.{first_wrong}
use Rattle.hc_history.specs.Note.{Hit}
use Rattle.hc_history.specs.Books.{value_at}
use Rattle.hc_history.specs.Honest.{Honest}
use Rattle.hc_machine.specs.Cache.{Replied, new_cache}
use Rattle.hc_machine.specs.Calls.{find}
use Rattle.hc_machine.specs.Call.{CacheCall, Removes, acts}
use Rattle.hc_theorem.specs.runs.Honesty.{AllCallSized}
use Rattle.hc_lease.specs.Stamps.{Stamps}
use Rattle.hc_lease_steps.specs.Serving as one_run
use Rattle.hc_lease_steps.specs.Serving.{Calls, Service, new_service}
use Rattle.hc_restart_laws.specs.Tickets.{restarted}

pub data Deed : Type 0 where
  -- what a service, its database, clients and workers do while a cache runs
  Does : (deed : one_run.Deed) → Deed
  -- the cache is closed, and goes on as it was, with so many slots for its tickets
  Restarts : (slots : ℕ) → Deed

-- who has a ticket, or asked with one, still has it behind a restart
abbrev pub after : Deed → Service → Service
after (Does deed) service = one_run.after deed service
after (Restarts slots) service = record service { world = record service.world { stamps = restarted slots service.world.stamps } }

abbrev pub run : List Deed → Service → Service
run [] service = service
run (deed ∷ deeds) service = run deeds (after deed service)

-- the calls of the cache among them
abbrev pub calls_of : List Deed → List CacheCall
calls_of [] = []
calls_of (Does (Calls event) ∷ deeds) = event ∷ calls_of deeds
calls_of (deed ∷ deeds) = calls_of deeds

-- what the service and its database owe while the cache runs, and that there is a slot
abbrev pub AllMay : (List ℕ → ℕ) → List Deed → Service → Type 0
AllMay version [] service = Unit {0}
AllMay version (Does deed ∷ deeds) service = one_run.May version deed service.world × AllMay version deeds (after (Does deed) service)
AllMay version (Restarts slots ∷ deeds) service = (0 < slots) × AllMay version deeds (after (Restarts slots) service)

-- what holds of a service from its beginning on, as long as the device tells no lie: the pages of a run are those that the one
-- before left
pub record Serves (version : List ℕ → ℕ) (config : Config) (deeds : List Deed) (begins : Service) : Type 0 where
  pub right : first_wrong config ≡ None
  pub sized : AllCallSized (calls_of deeds)
  pub honest : Honest (acts (calls_of deeds) (new_cache config)).log
  pub slots : 0 < length begins.world.stamps.slots
  pub may : AllMay version deeds begins

-- a remove of the key, in the midst of others
abbrev pub with_remove : List Deed → ℕ → List ℕ → List Deed → List Deed
with_remove earlier client key later = earlier ++ Does (Calls (Removes client key)) ∷ later

-- Once a remove of a key is answered, the map has no value under it whose row is older than what was committed before that
-- remove. `version` is what a stored value tells of its row.
abbrev pub NothingStale : Type 0
NothingStale = (version : List ℕ → ℕ) (config : Config) (stamps : Stamps) (versions : List ℕ → ℕ) (earlier later : List Deed) (client : ℕ) (key value : List ℕ)
    → Serves version config (with_remove earlier client key later) (new_service config stamps versions)
    → value_at config.flash (run (with_remove earlier client key later) (new_service config stamps versions)).world.log key ≡ Some value
    → (run earlier (new_service config stamps versions)).world.rows key ≤ version value

-- So no find that is answered at once hits such a value.
abbrev pub NoHitIsStale : Type 0
NoHitIsStale = (version : List ℕ → ℕ) (config : Config) (stamps : Stamps) (versions : List ℕ → ℕ) (earlier later : List Deed) (client finder : ℕ) (key value : List ℕ)
    → Serves version config (with_remove earlier client key later) (new_service config stamps versions)
    → (find finder key (run (with_remove earlier client key later) (new_service config stamps versions)).cache).answer ≡ Replied (Hit value)
    → (run earlier (new_service config stamps versions)).world.rows key ≤ version value
