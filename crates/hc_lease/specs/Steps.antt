-- What a ticket promises, over any list of steps of a cache.
use Rattle.std.specs.Prelude.{◌≡◌, ℕ, ◌<◌, ◌==◌, Bool, true, false, List, [], ◌∷◌, ◌++◌, length, replicate, Some, bytes_eq}
use Rattle.std.specs.List.{list_any}
use Rattle.hc_lease.specs.Stamps.{Stamps, slot_of, changed, ticket_at, is_fresh, with_add, is_add, is_add_in, replied}

-- what may change a key
pub data Step : Type 0 where
  -- an insert, an add that stores, or a remove of the key is answered at once
  Change : (key : List ℕ) → Step
  -- an add of the key begins to wait for flash
  Wait : (call : ℕ) (key : List ℕ) → Step
  -- a worker, or another call, answers an add of the key that waits
  Answer : (call : ℕ) (key : List ℕ) → Step
  -- the reply of a call that waited is handed out
  Reply : (call : ℕ) → Step

abbrev pub after : Step → Stamps → Stamps
after (Change key) stamps = changed key stamps
after (Wait call key) stamps = with_add call key stamps
after (Answer call key) stamps = stamps
after (Reply call) stamps = replied call stamps

abbrev pub run : List Step → Stamps → Stamps
run [] stamps = stamps
run (step ∷ steps) stamps = run steps (after step stamps)

-- only an add that waits is answered
abbrev pub May : Step → Stamps → Type 0
May (Answer call key) stamps = list_any (is_add call (slot_of key (length stamps.slots))) stamps.adds ≡ true
May step stamps = Unit {0}

abbrev pub AllMay : List Step → Stamps → Type 0
AllMay [] stamps = Unit {0}
AllMay (step ∷ steps) stamps = May step stamps × AllMay steps (after step stamps)

-- the step changes what the key stands for
abbrev pub is_change : List ℕ → Step → Bool
is_change key (Change other) = bytes_eq other key
is_change key (Answer call other) = bytes_eq other key
is_change key step = false

-- A ticket that is fresh for a key was handed out after the last change of that key: whatever steps came between.
abbrev pub FreshIsUnchanged : Type 0
FreshIsUnchanged = (stamps : Stamps) (steps : List Step) (key : List ℕ) (ticket : ℕ)
    → 0 < length stamps.slots → ticket_at stamps ≡ Some ticket → AllMay steps stamps
    → is_fresh key ticket (run steps stamps) ≡ true
    → list_any (is_change key) steps ≡ false

-- the step changes a key of the slot, of so many, or an add of one begins to wait
abbrev pub is_change_in : ℕ → ℕ → Step → Bool
is_change_in slot slots (Change key) = slot_of key slots == slot
is_change_in slot slots (Wait call key) = slot_of key slots == slot
is_change_in slot slots step = false

-- A ticket that is handed out while no add of the key's slot waits stays fresh for the key until a key of that slot is changed,
-- or an add of one begins to wait: of a table that began with no change, and whatever else comes between. So what was loaded
-- is refused for no other reason.
abbrev pub UnchangedIsFresh : Type 0
UnchangedIsFresh = (slots : ℕ) (stamps : Stamps) (earlier later : List Step) (key : List ℕ) (ticket : ℕ)
    → stamps.slots ≡ replicate slots 0 → ticket_at (run earlier stamps) ≡ Some ticket
    → list_any (is_add_in (slot_of key slots)) (run earlier stamps).adds ≡ false
    → list_any (is_change_in (slot_of key slots) slots) later ≡ false
    → is_fresh key ticket (run (earlier ++ later) stamps) ≡ true
