-- A service with a cache with leases before its database: what it finds is never older than what was committed before a
-- delete that was answered.
use Rattle.std.specs.Prelude.{◌≡◌, ◌⊎◌, ℕ, ◌+◌, ◌≤◌, true, List, [], ◌∷◌, ◌++◌}
use Rattle.hc_types.specs.Config.{Config}
use Rattle.hc_history.specs.Note.{Hit}
use Rattle.hc_history.specs.Honest.{Honest}
use Rattle.hc_machine.specs.Cache.{Answer, Replied, Waits, new_cache}
use Rattle.hc_machine.specs.Calls.{find, take_reply}
use Rattle.hc_machine.specs.Call.{Finds, acts}
use Rattle.hc_lease.specs.Stamps.{ticket_at, is_fresh}
use Rattle.hc_lease.specs.Service.{Load, IsAmong, at, lent_with}
use Rattle.hc_leased.specs.Leased.{Leased}
use Rattle.hc_leased.specs.Runs.{Call, Looks, Stores, Sets, Puts, Tries, Fails, Deletes, Does, Begins, AllFit, all_events}

pub record Service : Type 0 where
  -- how often each row of the database was changed: its version
  pub rows : List ℕ → ℕ
  pub leased : Leased
  -- the tickets that were handed out, and what was asked for with them
  pub lent : List ℕ
  pub loads : List Load

-- what happens, one after the other
pub data Deed : Type 0 where
  -- a change of the row is committed in the database
  Commit : (key : List ℕ) → Deed
  -- a call of the cache, by a client or a worker
  Calls : (call : Call) → Deed
  -- a ticket is handed out
  Lend : Deed
  -- the database is asked for the row, by someone who has the ticket
  Ask : (key : List ℕ) (ticket : ℕ) → Deed

-- what the database answered with a ticket that is fresh: no older than what was committed before it was asked
pub record Loaded (version : List ℕ → ℕ) (service : Service) (key value : List ℕ) : Type 0 where
  pub load : Load
  pub asked : IsAmong load service.loads
  pub own : load.key ≡ key
  pub fresh : is_fresh key load.ticket service.leased.stamps ≡ true
  pub least : load.least ≤ version value

-- or the newest row, while nobody else can change it
abbrev pub MayStore : (List ℕ → ℕ) → Service → List ℕ → List ℕ → Type 0
MayStore version service key value = Loaded version service key value ⊎ (service.rows key ≤ version value)

-- what is stored is such a value, and nothing is added
abbrev pub MayCall : (List ℕ → ℕ) → Call → Service → Type 0
MayCall version (Stores client handle) service = MayStore version service handle.key handle.value
MayCall version (Sets pool key value ttl) service = MayStore version service key value
MayCall version (Puts client handle inserted) service = ⊥
MayCall version (Tries pool key value ttl inserted) service = ⊥
MayCall version (Fails pool key value ttl) service = ⊥
MayCall version call service = Unit {0}

-- each deed, by what the service and its database owe, and by what the contracts of `Leased`'s calls say
abbrev pub Happens : (List ℕ → ℕ) → Deed → Service → Service → Type 0
Happens version (Commit key) old new = new ≡ record old { rows = at key (old.rows key + 1) old.rows }
Happens version (Calls call) old new = MayCall version call old × Does call old.leased new.leased × (new ≡ record old { leased = new.leased })
Happens version Lend old new = new ≡ record old { lent = lent_with (ticket_at old.leased.stamps) old.lent }
Happens version (Ask key ticket) old new = IsAmong ticket old.lent × (new ≡ record old { loads = record { key = key; ticket = ticket; least = old.rows key } ∷ old.loads })

abbrev pub Follow : (List ℕ → ℕ) → List Deed → Service → Service → Type 0
Follow version [] old new = new ≡ old
Follow version (deed ∷ deeds) old new = (middle : Service) × (Happens version deed old middle × Follow version deeds middle new)

-- the calls of the cache among them
abbrev pub calls_of : List Deed → List Call
calls_of [] = []
calls_of (Calls call ∷ deeds) = call ∷ calls_of deeds
calls_of (deed ∷ deeds) = calls_of deeds

-- the cache is new, and no ticket was handed out
pub record ServiceBegins (config : Config) (first : Service) : Type 0 where
  pub leased : Begins config first.leased
  pub lent : first.lent ≡ []
  pub loads : first.loads ≡ []

-- Once the delete of a key is answered, no find that is answered at once hits a value under it whose row is older than
-- what was committed before that delete: whatever the service's clients and the cache's workers do, and in whatever
-- order, as long as what the cache was told of its device is true. `version` is what a stored value tells of its row.
abbrev pub LeasedNeverStale : Type 0
LeasedNeverStale = (version : List ℕ → ℕ) (config : Config) (earlier later : List Deed) (first before last : Service) (client finder : ℕ) (key value : List ℕ) (answer : Answer)
    → ServiceBegins config first → Follow version earlier first before → Follow version (Calls (Deletes client key answer) ∷ later) before last
    → AllFit (calls_of (earlier ++ Calls (Deletes client key answer) ∷ later))
    → Honest (acts (all_events (calls_of (earlier ++ Calls (Deletes client key answer) ∷ later)) (new_cache config)) (new_cache config)).log
    → (find finder key last.leased.logged.cache).answer ≡ Replied (Hit value)
    → before.rows key ≤ version value

-- Nor does one that waits for flash, where it was begun after that delete: its reply, whenever it is taken, brings no
-- such value.
abbrev pub LeasedRepliesNeverStale : Type 0
LeasedRepliesNeverStale = (version : List ℕ → ℕ) (config : Config) (earlier between later : List Deed) (first before asked waiting last : Service) (client finder call : ℕ) (key value : List ℕ) (answer : Answer)
    → ServiceBegins config first → Follow version earlier first before → Follow version (Calls (Deletes client key answer) ∷ between) before asked
    → Happens version (Calls (Looks (Finds finder key) (Waits call))) asked waiting → Follow version later waiting last
    → AllFit (calls_of (earlier ++ Calls (Deletes client key answer) ∷ (between ++ Calls (Looks (Finds finder key) (Waits call)) ∷ later)))
    → Honest (acts (all_events (calls_of (earlier ++ Calls (Deletes client key answer) ∷ (between ++ Calls (Looks (Finds finder key) (Waits call)) ∷ later))) (new_cache config)) (new_cache config)).log
    → (take_reply call last.leased.logged.cache).answer ≡ Replied (Hit value)
    → before.rows key ≤ version value
