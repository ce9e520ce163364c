-- What is done with values that are read where they lie.
use Rattle.std.specs.Prelude.{◌≡◌, ◌⊎◌, ℕ, List, ◌++◌, length, drop, take, min, Option, Some, None}
use Rattle.hc_types.specs.Limits.{key_refusal}
use Rattle.hc_types.specs.declared.refusal.Refusal.{Refusal}
use Rattle.hc_types.specs.declared.refusal.Refusal.TheVariants.{Exists, NoMemory}
use Rattle.hc_history.specs.Note as note
use Rattle.hc_history.specs.Note.{Reply}
use Rattle.hc_machine.specs.Cache.{Replied}
use Rattle.hc_machine.specs.Calls.{take_reply}
use Rattle.hc_core.specs.Logged.{IsCall}
use Rattle.hc_core.specs.Plain.{MayRefuse}
use Rattle.hc_lease.specs.Stamps.{replied}
use Rattle.hc_leased.specs.Leased.{Leased, SameLeases, Become}
use Rattle.hc_c.specs.declared.reading.Reading.{Reading}
use Rattle.hc_c.specs.declared.status.Status.{Status}
use Rattle.hc_c.specs.declared.status.Status.TheVariants.{Done, Refused, Miss, Waits}
use Rattle.hc_c.specs.Calls.{Finds, FindsNone}

-- a handle to this value, which shares it
abbrev pub holding : List ℕ → Option Reading
holding value = Some (record { bytes = value })

-- the value is handed out, and where there is none the handle has none
abbrev pub Reads : List ℕ → Option Reading → Status → Leased → Leased → Type 0
Reads key is Done old new = Finds key old.logged new.logged (λ value. is ≡ holding value) × SameLeases old new
Reads key is (Refused refusal) old new = (is ≡ None) × ((new ≡ old) × ((key_refusal key ≡ Some refusal) ⊎ (refusal ≡ NoMemory)))
Reads key is status old new = FindsNone key status old new × (is ≡ None)

-- ---- replies that were owed

-- what a reply is told as
abbrev pub told_as : Reply → Status
told_as note.Stored = Done
told_as note.Exists = Refused Exists
told_as (note.Hit value) = Done
told_as note.Miss = Miss
told_as note.FoundInMemory = Done
told_as note.NotInMemory = Miss

-- the value that a reply brings is handed out
abbrev pub handed : Reply → Option Reading
handed (note.Hit value) = holding value
handed reply = None

-- a reply is taken; of an add, its key counts as changed now
pub record TakesReply (call : ℕ) (is : Option Reading) (status : Status) (old new : Leased) : Type 0 where
  pub reply : Reply
  pub taken : IsCall (take_reply call old.logged.cache) (Replied reply) old.logged new.logged
  pub stamps : Become (replied call old.stamps) new.stamps
  pub turns : new.turns ≡ old.turns
  pub told : status ≡ told_as reply
  pub value : is ≡ handed reply

abbrev pub Replies : ℕ → Option Reading → Status → Leased → Leased → Type 0
Replies call is (Refused refusal) old new =
    TakesReply call is (Refused refusal) old new
    ⊎ ((new ≡ old) × ((is ≡ None) × MayRefuse (take_reply call old.logged.cache).answer refusal))
Replies call is status old new = TakesReply call is status old new

-- ---- values that were handed out

-- so many bytes from this place on stand at the buffer's head: all, or as many as fit
abbrev pub Pieces : List ℕ → ℕ → ℕ → List ℕ → List ℕ → Type 0
Pieces value from count old new =
    (count ≡ min (length (drop from value)) (length old)) × (new ≡ take count (drop from value) ++ drop count old)

abbrev pub Copied : ℕ → ℕ → List ℕ → List ℕ → Status → List ℕ → Type 0
Copied from count old new Done value = Pieces value from count old new
Copied from count old new status value = ⊥

abbrev pub Lengths : ℕ → Status → List ℕ → Type 0
Lengths count Done value = count ≡ length value
Lengths count status value = ⊥
