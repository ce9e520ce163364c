-- Slots as the code has them, each empty or filled, and as the machine has them: those that are filled, in order.
use Rattle.std.specs.Prelude.{ℕ, suc, List, [], ◌∷◌, Option, Some, None, slice_index_or}
use Rattle.hc_memory.specs.Item.{Handle}
use Rattle.hc_machine.specs.Schedule.{Slot}

-- the handle of a slot
abbrev pub handle_in : ℕ → List (Option Handle) → Option Handle
handle_in slot slots = slice_index_or slots slot None

-- those that are filled, the first of which has this number
abbrev pub filled_from : ℕ → List (Option Handle) → List Slot
filled_from number [] = []
filled_from number (None ∷ slots) = filled_from (suc number) slots
filled_from number (Some handle ∷ slots) = record { number = number; handle = handle } ∷ filled_from (suc number) slots
