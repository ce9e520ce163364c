-- What each call on a cache does, by the status that it answers. What it tells is counted, and its losses by their reasons too;
-- and a call that stores or removes is the last change of its key, by which tickets are told to be stale.
use Rattle.std.specs.Prelude.{◌≡◌, ◌≢◌, ◌⊎◌, ◌<◌, ℕ, List, [], ◌++◌, length, drop, Option, Some, None}
use Rattle.hc_types.specs.Limits.{key_refusal}
use Rattle.hc_types.specs.declared.refusal.Refusal.{Refusal}
use Rattle.hc_types.specs.declared.refusal.Refusal.TheVariants.{Exists, NoMemory, NoPool}
use Rattle.hc_history.specs.Note as note
use Rattle.hc_machine.specs.Cache.{Moved, Replied, Refused as RefusedBy, Waits as WaitsFor, Moment, Discarded}
use Rattle.hc_machine.specs.Evicting.{allocate}
use Rattle.hc_machine.specs.Calls.{find, remove, tick}
use Rattle.hc_calls.specs.declared.answers.Inserted.TheVariants as inserted
use Rattle.hc_core.specs.Logged.{Logged, IsCall}
use Rattle.hc_core.specs.Plain.{set_step, add_step, give_up_step, MayRefuse, MayRefuseNew}
use Rattle.hc_lease.specs.Turns.{without_turn}
use Rattle.hc_leased.specs.Leased.{Leased, SameLeases, Changes, NothingStored, Become, stamps_added}
use Rattle.hc_c.specs.declared.status.Status.{Status}
use Rattle.hc_c.specs.declared.status.Status.TheVariants.{Done, Refused, Miss, Short, Waits}

-- why a call by a key is refused that needs nothing else
abbrev pub WhyKey : List ℕ → Refusal → Type 0
WhyKey key refusal = (key_refusal key ≡ Some refusal) ⊎ ((key_refusal key ≡ None) × (refusal ≡ NoMemory))

-- ---- set and add

abbrev pub Sets : ℕ → List ℕ → List ℕ → ℕ → Status → Leased → Leased → Type 0
Sets pool key value ttl Done old new =
    IsCall (set_step pool key value ttl old.logged.cache) (Replied note.Stored) old.logged new.logged
    × (Changes key old new × (key_refusal key ≡ None))
Sets pool key value ttl (Refused refusal) old new =
    NothingStored pool key value ttl refusal old.logged new.logged
    × (SameLeases old new
    × ((key_refusal key ≡ Some refusal) ⊎ ((key_refusal key ≡ None) × MayRefuse (allocate pool key value ttl old.logged.cache).answer refusal)))
Sets pool key value ttl status old new = ⊥

-- a call of an add that waits, for whose key no ticket is fresh until its reply is taken
pub record AddWaits (moved : Moved) (key : List ℕ) (old new : Leased) : Type 0 where
  pub call : ℕ
  pub waits : IsCall moved (WaitsFor call) old.logged new.logged
  pub stamps : Become (stamps_added key (inserted.Waiting call) old.stamps) new.stamps
  pub turns : new.turns ≡ without_turn key old.turns

abbrev pub AddRefused : ℕ → List ℕ → List ℕ → ℕ → Refusal → Logged → Logged → Type 0
AddRefused pool key value ttl refusal old new =
    ((new ≡ old) × (refusal ≢ Exists))
    ⊎ ((IsCall (add_step pool key value ttl old.cache) (RefusedBy Exists) old new × (refusal ≡ Exists))
    ⊎ (IsCall (give_up_step pool key value ttl old.cache) Discarded old new × (refusal ≡ NoMemory)))

-- no key was changed, and no turn began or ended; there may be room for more adds
abbrev pub KeepsLeases : Leased → Leased → Type 0
KeepsLeases old new = Become old.stamps new.stamps × (new.turns ≡ old.turns)

abbrev pub Adds : ℕ → List ℕ → List ℕ → ℕ → Status → Leased → Leased → Type 0
Adds pool key value ttl Done old new =
    IsCall (add_step pool key value ttl old.logged.cache) (Replied note.Stored) old.logged new.logged
    × (Become (stamps_added key inserted.Stored old.stamps) new.stamps
    × ((new.turns ≡ without_turn key old.turns) × (key_refusal key ≡ None)))
Adds pool key value ttl Waits old new = AddWaits (add_step pool key value ttl old.logged.cache) key old new × (key_refusal key ≡ None)
Adds pool key value ttl (Refused refusal) old new =
    AddRefused pool key value ttl refusal old.logged new.logged
    × (KeepsLeases old new
    × ((key_refusal key ≡ Some refusal) ⊎ ((key_refusal key ≡ None) × MayRefuseNew (allocate pool key value ttl old.logged.cache).answer refusal)))
Adds pool key value ttl status old new = ⊥

-- ---- get

-- a buffer, and the length that is told beside it
pub record Buffer : Type 0 where
  pub bytes : List ℕ
  pub len : ℕ

-- the value stands at the buffer's head, or is longer than it
abbrev pub Copies : List ℕ → Status → Buffer → Buffer → Type 0
Copies value Done old new = (new.len ≡ length value) × (new.bytes ≡ value ++ drop (length value) old.bytes)
Copies value Short old new = (new.len ≡ length value) × ((length old.bytes < length value) × (new.bytes ≡ old.bytes))
Copies value status old new = ⊥

-- the machine finds a value, of which this holds
pub record Finds (key : List ℕ) (old new : Logged) (held : List ℕ → Type 0) : Type 0 where
  pub value : List ℕ
  pub call : IsCall (find 0 key old.cache) (Replied (note.Hit value)) old new
  pub is_held : held value

pub record FindWaits (key : List ℕ) (old new : Logged) : Type 0 where
  pub call : ℕ
  pub waits : IsCall (find 0 key old.cache) (WaitsFor call) old new

-- what a find does that brings no value
abbrev pub FindsNone : List ℕ → Status → Leased → Leased → Type 0
FindsNone key Miss old new = IsCall (find 0 key old.logged.cache) (Replied note.Miss) old.logged new.logged × SameLeases old new
FindsNone key Waits old new = FindWaits key old.logged new.logged × SameLeases old new
FindsNone key (Refused refusal) old new = (new ≡ old) × WhyKey key refusal
FindsNone key status old new = ⊥

abbrev pub Gets : List ℕ → Buffer → Buffer → Status → Leased → Leased → Type 0
Gets key was is Done old new = Finds key old.logged new.logged (λ value. Copies value Done was is) × SameLeases old new
Gets key was is Short old new = Finds key old.logged new.logged (λ value. Copies value Short was is) × SameLeases old new
Gets key was is status old new = FindsNone key status old new × (is ≡ was)

-- ---- delete

abbrev pub Deletes : List ℕ → Status → Leased → Leased → Type 0
Deletes key Done old new = IsCall (remove 0 key old.logged.cache) (Replied note.FoundInMemory) old.logged new.logged × Changes key old new
Deletes key Miss old new = IsCall (remove 0 key old.logged.cache) (Replied note.NotInMemory) old.logged new.logged × Changes key old new
Deletes key (Refused refusal) old new = (new ≡ old) × WhyKey key refusal
Deletes key status old new = ⊥

-- ---- the clock

pub record Ticks (moment : ℕ) (old new : Logged) : Type 0 where
  pub now : ℕ
  pub call : IsCall (tick moment old.cache) (Moment now) old new

abbrev pub MovesTo : ℕ → Status → Leased → Leased → Type 0
MovesTo moment Done old new = Ticks moment old.logged new.logged × SameLeases old new
MovesTo moment (Refused refusal) old new = (new ≡ old) × (refusal ≡ NoMemory)
MovesTo moment status old new = ⊥
