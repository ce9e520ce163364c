-- The open charges, between two pieces of a step: those of slots, and those of adds.
use Rattle.std.specs.Prelude.{◌≡◌, ℕ, ◌+◌, ◌≤◌, ◌==◌, Bool, true, List, [], ◌∷◌}
use Rattle.hc_types.specs.Tally.{count}
use Rattle.hc_memory.specs.Item.{Open, charge_by}
use Rattle.hc_memory.specs.Charges.{is_open}
use Rattle.hc_machine.specs.items.Items.{open_has}
use Rattle.hc_machine.specs.Nvm.{Fill, adds}
use Rattle.hc_machine.specs.Schedule.{Slot, is_slot}
use Rattle.hc_invariant.specs.Tells.{waiters_of}

-- the slot's charge has this number
abbrev pub holds : ℕ → Slot → Bool
holds number slot = slot.handle.number == number

-- each slot's handle is one that the cache gave out: its charge is open, with that key, pool and length
abbrev pub AllOpen : List Open → List Slot → Type 0
AllOpen charges [] = Unit {0}
AllOpen charges (slot ∷ slots) = (is_open (charge_by slot.handle) charges ≡ true) × AllOpen charges slots

-- each open charge is one slot's, or one of so many others that have its number
pub record Opens (slots : List Slot) (more : ℕ → ℕ) (charges : List Open) : Type 0 where
  pub held : (n : ℕ) → count (open_has n) charges ≡ count (holds n) slots + more n
  pub unique : (n : ℕ) → count (open_has n) charges ≤ 1
  pub known : AllOpen charges slots

-- how many adds that wait keep the charge with this number
abbrev pub adds_in : List Fill → ℕ → ℕ
adds_in fills n = count (adds n) (waiters_of fills)

-- what slots are between two steps
pub record SlotsHold (slots : List Slot) (charges : List Open) (fills : List Fill) : Type 0 where
  -- no two slots have one number
  pub one_slot : (n : ℕ) → count (is_slot n) slots ≤ 1
  pub known : AllOpen charges slots
  -- each open charge is one slot's, or is kept by one add that waits
  pub held : (n : ℕ) → count (open_has n) charges ≡ count (holds n) slots + adds_in fills n
