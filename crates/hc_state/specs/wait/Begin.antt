-- Calls that wait for a key from flash, and the replies that they are owed.
use Rattle.std.specs.Prelude.{ℕ, ◌+◌, Bool, false, List, Option, Some, None}
use Rattle.hc_machine.specs.Nvm.{Nvm, Waiter, fill_at, joined_by}
use Rattle.hc_machine.specs.Cache.{Owed, Cache, owed_anew}
use Rattle.hc_waiting.specs.Replies.{AreBefore}
use Rattle.hc_waiting.specs.Fills.{is_kept_in}

-- each reply is owed to a call that was begun
abbrev pub OwesBegun : Cache → Type 0
OwesBegun cache = AreBefore (cache.calls + 1) cache.owed

-- the replies that are owed once a call waits, where there is flash
abbrev pub owed_where : Option Nvm → ℕ → List Owed → List Owed
owed_where None call owed = owed
owed_where (Some nvm) call owed = owed_anew call owed

-- and what waits
abbrev pub joined_where : Option Nvm → List ℕ → Waiter → Option Nvm
joined_where None key waiter = None
joined_where (Some nvm) key waiter = Some (record nvm { fills = joined_by key waiter nvm.fills })

-- an add that waits for this key keeps the charge with this number
abbrev pub keeps_in : Option Nvm → List ℕ → ℕ → Bool
keeps_in None key number = false
keeps_in (Some nvm) key number = is_kept_in number (fill_at key nvm.fills)
