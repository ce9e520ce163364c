-- What the judge reads off the end of a log.
use Rattle.std.specs.Prelude.{ℕ, List, [], ◌∷◌, Option, Some, None}
use Rattle.std.specs.Borrow.{Bor}
use Rattle.hc_types.specs.FlashEntry.{FlashEntry}
use Rattle.hc_history.specs.Note.{Note, Lose}
use Rattle.hc_history.specs.Pages.{entries_in}

-- the history before the last losses
abbrev pub before_losses : List Note → List Note
before_losses [] = []
before_losses (Lose scope cause ∷ older) = before_losses older
before_losses (note ∷ older) = note ∷ older

-- the entries of a page, where there is one
abbrev pub entries_held : ℕ → Option (Bor (List ℕ)) → List FlashEntry
entries_held size None = []
entries_held size (Some page) = entries_in size page.now
