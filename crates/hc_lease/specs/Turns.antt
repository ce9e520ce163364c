-- Who loads what: one at a time loads a key, so that a key which many want is loaded once. No promise rests on it.
use Rattle.std.specs.Prelude.{◌≡◌, ℕ, ◌-◌, ◌<◌, ◌≤◌, ◌%◌, ◌==◌, nat_lt, Bool, false, ◌&&◌, List, length, Option, Some, None, slice_get, slice_set, if◌then◌else◌}
use Rattle.hc_types.specs.Digest.{digest_of}
use Rattle.hc_lease.specs.declared.turns.Turn.{Turn}

-- the turn at a place, and none where there is no such place
abbrev pub turn_in : Option (Option Turn) → Option Turn
turn_in None = None
turn_in (Some turn) = turn

-- where the keys of a digest have their place, and the turn there
abbrev pub place_at : ℕ → List (Option Turn) → ℕ
place_at digest turns = digest % length turns

abbrev pub place_of : List ℕ → List (Option Turn) → ℕ
place_of key turns = place_at (digest_of key) turns

abbrev pub turn_at : List ℕ → List (Option Turn) → Option Turn
turn_at key turns = turn_in (slice_get turns (place_of key turns))

-- someone loads a key of this digest
abbrev pub is_turn_of : ℕ → Option Turn → Bool
is_turn_of digest None = false
is_turn_of digest (Some turn) = turn.digest == digest

-- since when, if that is fewer than so many seconds ago
abbrev pub busy_in : ℕ → ℕ → ℕ → Option Turn → Option ℕ
busy_in digest now patience None = None
busy_in digest now patience (Some turn) = if (turn.digest == digest) && nat_lt (now - turn.since) patience then Some turn.since else None

abbrev pub busy_at : List ℕ → ℕ → ℕ → List (Option Turn) → Option ℕ
busy_at key now patience turns = busy_in (digest_of key) now patience (turn_at key turns)

-- who asks while nobody loads the key has the turn, also in place of another key's
abbrev pub turned : List ℕ → ℕ → Option ℕ → List (Option Turn) → List (Option Turn)
turned key now None turns = slice_set turns (place_of key turns) (Some (record { digest = digest_of key; since = now }))
turned key now (Some since) turns = turns

-- the load of a key of the digest is over, or given up
abbrev pub without_turn_at : ℕ → List (Option Turn) → List (Option Turn)
without_turn_at digest turns = if is_turn_of digest (turn_in (slice_get turns (place_at digest turns))) then slice_set turns (place_at digest turns) None else turns

abbrev pub without_turn : List ℕ → List (Option Turn) → List (Option Turn)
without_turn key turns = without_turn_at (digest_of key) turns

-- Who asks for a key while another has its turn is told so, for as long as patience lasts.
abbrev pub OneAtATime : Type 0
OneAtATime = (turns : List (Option Turn)) (key : List ℕ) (now later patience : ℕ) → 0 < length turns → later - now < patience
    → busy_at key later patience (turned key now None turns) ≡ Some now

-- A turn ends when patience does, or when its key's load is said to be over: who asks then has it.
abbrev pub TurnsEnd : Type 0
TurnsEnd = (turns : List (Option Turn)) (key : List ℕ) (now later patience : ℕ) → 0 < length turns
    → (patience ≤ later - now → busy_at key later patience (turned key now None turns) ≡ None) × (busy_at key later patience (without_turn key turns) ≡ None)
