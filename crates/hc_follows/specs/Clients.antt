-- Clients' steps: what each one's part and answer are, by the books, and what it leaves in the slots.
use Rattle.std.specs.Prelude.{◌≡◌, ℕ, ◌+◌, ◌==◌, max, min, nat_lt, not, List, [], ◌∷◌, length, find, Option, Some, None, IsSome, option_map, if◌then◌else◌}
use Rattle.hc_types.specs.Charge.{charge_of}
use Rattle.hc_types.specs.Config.{Config}
use Rattle.hc_types.specs.declared.refusal.Refusal.{Refusal}
use Rattle.hc_types.specs.declared.refusal.Refusal.TheVariants.{NoPool, ValueTooLong, NoRoom, Exists as AlreadyExists, UnknownCall, NotReady}
use Rattle.hc_history.specs.Note as note
use Rattle.hc_history.specs.Note.{Note, Reply, End, Freed, Now}
use Rattle.hc_history.specs.Books.{Charge, charges, open_calls, open_call, owed, now_at, value_at}
use Rattle.hc_history.specs.Books as books
use Rattle.hc_history.specs.Lawful.{past, is_full}
use Rattle.hc_machine.specs.Cache.{Refused, Discarded, Replied, Waits, Moment}
use Rattle.hc_machine.specs.World.{Says}
use Rattle.hc_machine.specs.Schedule.{Deed, Open, Put, PutNew, Discard, Told, Tells, NoSlot, Filled}
use Rattle.hc_follows.specs.Desk.{Kept, Adding, kept_at, without_kept, with_kept, open_charges}
use Rattle.hc_follows.specs.Telling.{NoCall, Answers, Waiting, IsCharged}

-- ---- refusals, by the books

-- why nothing is allocated: the first reason that holds (13, 14, 15)
abbrev pub open_refusal : Config → List Note → ℕ → List ℕ → ℕ → Option Refusal
open_refusal config older pool key len =
    if not (nat_lt pool (length config.pools)) then Some NoPool
    else (if nat_lt 1048576 len then Some ValueTooLong
    else (if is_full config pool (open_charges older) (charge_of key len) then Some NoRoom else None))

-- when a value expires: never for a ttl of 0, and at most at 2^64 - 1
abbrev pub expires_at : ℕ → ℕ → ℕ
expires_at now ttl = if ttl == 0 then 0 else min (now + ttl) 18446744073709551615

-- ---- clients' steps

-- An Open of a filled slot does nothing. Else it is refused for the first reason that holds, and tells nothing, or its part ends
-- with its charge.
abbrev pub OpenPart : Config → List Note → Option Kept → ℕ → List ℕ → List ℕ → Told → List Note → Type 0
OpenPart config older (Some kept) pool key value NoSlot part = part ≡ []
OpenPart config older None pool key value Filled part = (open_refusal config older pool key (length value) ≡ None) × IsCharged key pool (charge_of key (length value)) (past [] part) × NoCall part
OpenPart config older None pool key value (Tells (Says (Refused refusal))) part = (open_refusal config older pool key (length value) ≡ Some refusal) × (part ≡ [])
OpenPart config older kept pool key value told part = ⊥

-- what fills the slot is inserted, and the call ends
abbrev pub PutPart : List Note → ℕ → Option Kept → Told → List Note → Type 0
PutPart older client None NoSlot part = part ≡ []
PutPart older client (Some kept) (Tells (Says (Replied note.Stored))) part = Answers older client (note.Insert kept.key kept.value kept.expiry) note.Stored part
PutPart older client kept told part = ⊥

-- refused (17) only where the map has the key unexpired
abbrev pub PutNewPart : Config → List Note → ℕ → Option Kept → Told → List Note → Type 0
PutNewPart config older client None NoSlot part = part ≡ []
PutNewPart config older client (Some kept) (Tells (Says (Replied note.Stored))) part = Answers older client (note.Add kept.key kept.value kept.expiry) note.Stored part
PutNewPart config older client (Some kept) (Tells (Says (Waits call))) part = Waiting config older client (note.Add kept.key kept.value kept.expiry) call part
PutNewPart config older client (Some kept) (Tells (Says (Refused AlreadyExists))) part = IsSome (value_at config.flash older kept.key) × (part ≡ [])
PutNewPart config older client kept told part = ⊥

-- what fills the slot is given up
abbrev pub DiscardPart : Option Kept → Told → List Note → Type 0
DiscardPart None NoSlot part = part ≡ []
DiscardPart (Some kept) (Tells (Says Discarded)) part = part ≡ Freed kept.charge ∷ []
DiscardPart kept told part = ⊥

-- a find is answered, or waits
abbrev pub FindPart : Config → List Note → ℕ → List ℕ → Told → List Note → Type 0
FindPart config older client key (Tells (Says (Replied reply))) part = Answers older client (note.Find key) reply part
FindPart config older client key (Tells (Says (Waits call))) part = Waiting config older client (note.Find key) call part
FindPart config older client key told part = ⊥

-- a remove is answered
abbrev pub RemovePart : List Note → ℕ → List ℕ → Told → List Note → Type 0
RemovePart older client key (Tells (Says (Replied reply))) part = Answers older client (note.Remove key) reply part
RemovePart older client key told part = ⊥

-- the reply of a call that is answered and didn't end
abbrev pub reply_owed : ℕ → List books.Answer → Option Reply
reply_owed call all = option_map (λ (answer : books.Answer). answer.reply) (find (λ (answer : books.Answer). answer.number == call) all)

-- refused (20) where the call isn't answered yet, and (19) where it isn't begun or has ended
abbrev pub ReplyPart : List Note → ℕ → Told → List Note → Type 0
ReplyPart older call (Tells (Says (Replied reply))) part = (reply_owed call (owed older) ≡ Some reply) × (part ≡ End call ∷ [])
ReplyPart older call (Tells (Says (Refused NotReady))) part = IsSome (open_call call (open_calls older)) × (part ≡ [])
ReplyPart older call (Tells (Says (Refused UnknownCall))) part = (open_call call (open_calls older) ≡ None) × (reply_owed call (owed older) ≡ None) × (part ≡ [])
ReplyPart older call told part = ⊥

-- the clock moves to a later moment, and to no earlier one
abbrev pub TickPart : List Note → ℕ → Told → List Note → Type 0
TickPart older moment (Tells (Says (Moment now))) part = (now ≡ max (now_at older) moment) × (part ≡ (if nat_lt (now_at older) moment then Now moment ∷ [] else []))
TickPart older moment told part = ⊥

-- ---- what stands after

-- the number of the charge that came last
abbrev pub newest : List Charge → ℕ
newest [] = 0
newest (charge ∷ others) = charge.number

-- an Open fills its slot; a Put, a Discard, and a PutNew that isn't refused empty theirs
abbrev pub slots_after : Deed → Told → List Note → ℕ → List Kept → List Kept
slots_after (Open slot pool key value ttl) Filled older now slots = with_kept (record { slot = slot; charge = newest (charges older); key = key; value = value; expiry = expires_at now ttl }) slots
slots_after (Put slot) told older now slots = without_kept slot slots
slots_after (Discard slot) told older now slots = without_kept slot slots
slots_after (PutNew slot) (Tells (Says (Refused refusal))) older now slots = slots
slots_after (PutNew slot) told older now slots = without_kept slot slots
slots_after deed told older now slots = slots

-- what was in the slot waits with the call, and keeps its charge
abbrev pub adds_by : Option Kept → ℕ → List Adding → List Adding
adds_by None call adds = adds
adds_by (Some kept) call adds = record { call = call; charge = kept.charge } ∷ adds

-- a PutNew that waits is an add that waits
abbrev pub adds_after : Deed → Told → List Kept → List Adding → List Adding
adds_after (PutNew slot) (Tells (Says (Waits call))) slots adds = adds_by (kept_at slot slots) call adds
adds_after deed told slots adds = adds
