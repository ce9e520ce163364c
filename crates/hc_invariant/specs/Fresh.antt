-- A fill that isn't an orphan: since the call that opened it began, no call was answered that inserted or removed its key.
use Rattle.std.specs.Prelude.{◌≡◌, ℕ, ◌==◌, Bool, false, ◌||◌, List, [], ◌∷◌, if◌then◌else◌}
use Rattle.hc_history.specs.Note.{Note, Begin, Did}
use Rattle.hc_history.specs.Books.{open_call, open_calls}
use Rattle.hc_history.specs.Lawful.{changes}
use Rattle.hc_machine.specs.Nvm.{Waiter, Fill}
use Rattle.hc_legal.specs.Replies.{is_change_of}

-- since this call began, one that changes the key was answered
abbrev pub changed_since : List Note → ℕ → List ℕ → Bool
changed_since [] since key = false
changed_since (Begin call client op ∷ older) since key = if call == since then false else changed_since older since key
changed_since (Did call reply ∷ older) since key = is_change_of (open_call call (open_calls older)) reply key || changed_since older since key
changed_since (note ∷ older) since key = changed_since older since key

-- the first of its calls opened it
abbrev pub IsFresh : List Note → List ℕ → List Waiter → Type 0
IsFresh older key [] = ⊥
IsFresh older key (waiter ∷ waiters) = changed_since older waiter.call key ≡ false

abbrev pub AllFresh : List Note → List Fill → Type 0
AllFresh older [] = Unit {0}
AllFresh older (fill ∷ fills) = IsFresh older fill.key fill.waiters × AllFresh older fills
