-- What one walk over a log keeps of the notes so far.
use Rattle.std.specs.Prelude.{◌≡◌, ℕ, ◌<◌, ◌==◌, Bool, true, List, [], ◌∷◌, Option, Some, None, IfSome, IsTrue, get_or, if◌then◌else◌}
use Rattle.std.specs.List.{list_any}
use Rattle.hc_history.specs.Note.{Reply, Note}
use Rattle.hc_history.specs.Books.{Call}
use Rattle.hc_client_records.specs.Records.{Entry, Record, asked, answered, finished}
use Rattle.hc_client_records.specs.Judge.{has_asked, has_ticked}

-- what was begun under each number
abbrev pub AreBegun : (ℕ → Option Call) → List Note → Type 0
AreBegun begun older = (call : ℕ) → begun call ≡ asked call older

-- the reply that is owed to each number
abbrev pub AreOwed : (ℕ → Option Reply) → List Note → Type 0
AreOwed owed older = (call : ℕ) → owed call ≡ answered call older

-- the call that a note finished, if it is the client's
abbrev pub of_client : ℕ → Option (ℕ × Entry) → List Entry
of_client client None = []
of_client client (Some call) = if call.0 == client then call.1 ∷ [] else []

-- at each client its finished calls
abbrev pub AreFinished : List (List Entry) → List Note → Type 0
AreFinished clients log = (client : ℕ) → client < 256 → get_or clients client [] ≡ finished client [] log

-- each call that is kept is some client's own
abbrev pub AreTheirs : (ℕ → Option Call) → List Record → Type 0
AreTheirs calls records = (number : ℕ) → IfSome (calls number) (λ (c : Call). list_any (has_asked number c.client c.op) records ≡ true)

-- each moment that is kept is one to which some client moved the clock
abbrev pub AreTicks : (ℕ → Bool) → List Record → Type 0
AreTicks ticks records = (moment : ℕ) → IsTrue (ticks moment) → list_any (has_ticked moment) records ≡ true

-- what holds of this record holds of one of those
abbrev pub IsAmong : Record → List Record → Type 0
IsAmong r records = (test : Record → Bool) → test r ≡ true → list_any test records ≡ true
