-- What a part of a step tells: of calls, of charges, of reads and writes.
use Rattle.std.specs.Prelude.{◌≡◌, ℕ, ◌+◌, ◌==◌, false, List, [], ◌∷◌, Option, Some, None, IsSome, if◌then◌else◌}
use Rattle.hc_types.specs.Config.{Config}
use Rattle.hc_history.specs.Note as note
use Rattle.hc_history.specs.Note.{Note, Op, Reply, Begin, Did, End, Charged}
use Rattle.hc_history.specs.Books.{buried, is_among, is_held, begun}
use Rattle.hc_history.specs.Regions.{key_of}

-- ---- what a part tells

-- the reply of the call's Did
abbrev pub did_in : ℕ → List Note → Option Reply
did_in call [] = None
did_in call (Did number reply ∷ rest) = if number == call then Some reply else did_in call rest
did_in call (note ∷ rest) = did_in call rest

-- the calls that end
abbrev pub ended_in : List Note → List ℕ
ended_in [] = []
ended_in (End call ∷ rest) = call ∷ ended_in rest
ended_in (note ∷ rest) = ended_in rest

-- how many reads and writes it tells
abbrev pub io_in : List Note → ℕ
io_in [] = 0
io_in (note.Read page result ∷ rest) = io_in rest + 1
io_in (note.Wrote page bytes is_written ∷ rest) = io_in rest + 1
io_in (note ∷ rest) = io_in rest

-- no call begins or ends, and nothing is read or written
abbrev pub NoCall : List Note → Type 0
NoCall part = (begun part ≡ 0) × (ended_in part ≡ []) × (io_in part ≡ 0)

-- the call begins, is answered with this reply, and ends; no other begins or ends
abbrev pub Answers : List Note → ℕ → Op → Reply → List Note → Type 0
Answers older client op reply (Begin call who what ∷ rest) =
    (call ≡ begun older + 1) × (who ≡ client) × (what ≡ op) × (did_in call rest ≡ Some reply) × (ended_in rest ≡ call ∷ []) × (begun rest ≡ 0) × (io_in rest ≡ 0)
Answers older client op reply part = ⊥

-- the call begins, and waits: there is flash, and the key has no item, doesn't wait, and isn't buried
abbrev pub Waiting : Config → List Note → ℕ → Op → ℕ → List Note → Type 0
Waiting config older client op call part =
    (part ≡ Begin call client op ∷ []) × (call ≡ begun older + 1) × IsSome config.flash × (is_held older (key_of op) ≡ false) × (is_among (key_of op) (buried older) ≡ false)

-- the last note charges the pool with so many bytes for the key
abbrev pub IsCharged : List ℕ → ℕ → ℕ → List Note → Type 0
IsCharged key pool bytes (Charged number k p b ∷ before) = (k ≡ key) × (p ≡ pool) × (b ≡ bytes)
IsCharged key pool bytes older = ⊥
