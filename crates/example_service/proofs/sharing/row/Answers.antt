use Rattle.std.proofs.Common.{◌≡◌, ◌⊎◌, inl, inr, ℕ, List, subst, sym}
use Rattle.hc_history.specs.Note.{Find, Insert, Miss, Stored}
use Rattle.hc_client_records.specs.Records.{Record, IsRecorded}
use Rattle.example_service.specs.Sharing.{IsLast}
use Rattle.example_service.proofs.sharing.row.Goals as goal

-- the miss is still the last call, or the store behind it is
loaded : (key row : List ℕ) (missed left : Record) → IsLast (Find key) Miss missed → (left ≡ missed) ⊎ ((expiry : ℕ) × IsRecorded missed (Insert key row expiry) Stored left) → IsLast (Find key) Miss left ⊎ ((expiry : ℕ) × IsLast (Insert key row expiry) Stored left)
loaded key row missed left miss (inl same) = inl (subst (IsLast (Find key) Miss) (sym same) miss)
loaded key row missed left miss (inr stored) = inr (stored.0, (missed, stored.1))

pub returns-in_ok-row-in-Miss-Some : goal.returns-in_ok-row-in-Miss-Some
returns-in_ok-row-in-Miss-Some g c =
    let did = c.in_ok-row-in-Miss-Some in
    (did.ensures.row, loaded c.args.key.now did.row c.look.new.client c.fetch.new.client (rw c.in-Miss-Some.is at c.in_ok-looked.ensures) did.ensures.recorded)
