-- What a client records, and when it agrees with a log.
use Rattle.std.specs.Prelude.{◌≡◌, ◌⊎◌, ℕ, ◌≤◌, ◌==◌, ◌++◌, Bool, true, false, List, [], ◌∷◌, Option, Some, None, All, Any, option_map, find, if◌then◌else◌}
use Rattle.hc_types.specs.Tally.{count}
use Rattle.hc_history.specs.Note.{Op, Reply, Note, Begin, End, Read, Wrote, Now}
use Rattle.hc_history.specs.Books.{Call, Answer, owed, now_at}
use Rattle.hc_history.specs.Lawful.{past}

-- an answered call: its number, what it asked, and the reply that was handed out
pub record Entry : Type 0 where
  pub call : ℕ
  pub op : Op
  pub reply : Reply

-- a call that was begun, and whose reply was never handed out: its number, and what it asked
pub record OpenCall : Type 0 where
  pub call : ℕ
  pub op : Op

-- what a client did: its answered calls, the calls that it left open, and the moments to which it moved the clock, each in order
pub record Record : Type 0 where
  pub client : ℕ
  pub entries : List Entry
  pub open_calls : List OpenCall
  pub ticks : List ℕ

-- who began the call of this number, and with what: the last one, of the notes with the newest first
abbrev pub asked : ℕ → List Note → Option Call
asked call [] = None
asked call (Begin number client op ∷ older) = if number == call then Some (record { number = number; client = client; op = op }) else asked call older
asked call (note ∷ older) = asked call older

-- the reply that is owed to it
abbrev pub answered : ℕ → List Note → Option Reply
answered call older = option_map (λ (answer : Answer). answer.reply) (find (λ (answer : Answer). answer.number == call) (owed older))

-- a call that was begun and answered so, if it is the client's
abbrev pub finished_by : ℕ → Option Call → Option Reply → List Entry
finished_by client (Some call) (Some reply) = if call.client == client then record { call = call.number; op = call.op; reply = reply } ∷ [] else []
finished_by client asked answered = []

-- the call of the client that this note ends, behind the notes before it
abbrev pub finished_at : ℕ → List Note → Note → List Entry
finished_at client older (End call) = finished_by client (asked call older) (answered call older)
finished_at client older note = []

-- the finished calls of the client among the rest, in the order of their ends
abbrev pub finished : ℕ → List Note → List Note → List Entry
finished client older [] = []
finished client older (note ∷ rest) = finished_at client older note ++ finished client (note ∷ older) rest

-- a record agrees with a log where it is the log's finished calls of its client, in the order of their ends
abbrev pub Agrees : List Note → Record → Type 0
Agrees log r = finished r.client [] log ≡ r.entries

-- the client asked this by the call of this number, which was answered or is left open
abbrev pub HasAsked : ℕ → Op → Record → Type 0
HasAsked call op r = Any (λ (e : Entry). (e.call ≡ call) × (e.op ≡ op)) r.entries ⊎ Any (λ (o : OpenCall). (o.call ≡ call) × (o.op ≡ op)) r.open_calls

-- a call that begins is the own call of a client that has a record, and the clock moves to a moment to which such a client moved it
abbrev pub IsOwn : List Record → Note → Type 0
IsOwn records (Begin call client op) = Any (λ (r : Record). (r.client ≡ client) × HasAsked call op r) records
IsOwn records (Now moment) = Any (λ (r : Record). Any (λ tick. tick ≡ moment) r.ticks) records
IsOwn records note = Unit {0}

-- the clock came to each moment to which the client moved it
abbrev pub IsReached : List Note → Record → Type 0
IsReached log r = All (λ tick. tick ≤ now_at (past [] log)) r.ticks

-- All records agree with the log; each call and each move of the clock in it is some client's own; and the clock came to each
-- moment to which a client moved it.
pub record Reconciled (log : List Note) (records : List Record) : Type 0 where
  pub agree : All (Agrees log) records
  pub own : All (IsOwn records) log
  pub reached : All (IsReached log) records

-- a result of the device that is a failure
abbrev pub is_failed : Note → Bool
is_failed (Read page None) = true
is_failed (Wrote page bytes false) = true
is_failed note = false

-- how many results of the device are failures
abbrev pub failures : List Note → ℕ
failures log = count is_failed log

-- one more answered call is recorded, with what it asked and the reply
abbrev pub IsRecorded : Record → Op → Reply → Record → Type 0
IsRecorded before op reply after = (call : ℕ) × (after ≡ record before { entries = before.entries ++ record { call = call; op = op; reply = reply } ∷ [] })

-- one more call is left open, which asked this
abbrev pub IsLeftOpen : Record → Op → Record → Type 0
IsLeftOpen before op after = (call : ℕ) × (after ≡ record before { open_calls = before.open_calls ++ record { call = call; op = op } ∷ [] })

-- the clock was moved once more, to this moment
abbrev pub IsTicked : Record → ℕ → Record → Type 0
IsTicked before moment after = after ≡ record before { ticks = before.ticks ++ moment ∷ [] }
