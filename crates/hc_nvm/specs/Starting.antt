-- What a worker's call comes to, by its parts.
use Rattle.std.specs.Prelude.{◌≡◌, ℕ, ◌+◌, ◌≤◌, Bool, true, false, List, [], ◌∷◌, Option, Some, None}
use Rattle.hc_types.specs.FlashEntry.{FlashEntry}
use Rattle.hc_memory.specs.Memory.{Memory}
use Rattle.hc_engines.specs.Engine.{Delete, Flush, Next, Busy, Io, Done}
use Rattle.hc_history.specs.Note.{Note, Unqueued, Writing}
use Rattle.hc_history.specs.Told.{Heard, told_more}
use Rattle.hc_machine.specs.Cache.{unmarked_by}
use Rattle.hc_machine.specs.Nvm.{Nvm, Task, Putting, Deleting, Flushing, taken_stone, without_put}
use Rattle.hc_machine.specs.Takes.{Taken, Reclaiming, launch, take_sized}
use Rattle.hc_nvm.specs.Stock.{Stock}

-- how many jobs there were then: an operation keeps its number where it goes on with an order
abbrev pub made_after : ℕ → Next → ℕ
made_after made Busy = made
made_after made (Io order outcome) = made + 1
made_after made (Done outcome) = made

-- nothing changed, nothing was told, and there is as much room for notes
pub record IsRefused (before after : Nvm) (heard told : Heard) (memory left : Memory) (room more : ℕ) : Type 0 where
  pub nvm : after ≡ before
  pub untold : told ≡ heard
  pub marks : left ≡ memory
  pub notes : room ≤ more

-- there is as much room for what waits
pub record KeepsRoom (before after : Stock) : Type 0 where
  pub puts : before.puts ≤ after.puts
  pub stones : before.stones ≤ after.stones
  pub fills : before.fills ≤ after.fills

-- ---- takes of what was chosen

abbrev pub flush_taken : Nvm → Taken
flush_taken nvm = launch Flushing Flush nvm

abbrev pub delete_taken : List ℕ → Nvm → Taken
delete_taken key nvm = launch (Deleting key) (Delete key) (record nvm { tombstones = taken_stone key nvm.tombstones })

abbrev pub put_taken : Bool → FlashEntry → Nvm → Taken
put_taken is_small put nvm = take_sized is_small put (record nvm { queue = without_put put.key nvm.queue })

-- a put is for its key where it is small, and for its region's page otherwise
abbrev pub put_task : Bool → List ℕ → Task
put_task true key = Putting key
put_task false key = Flushing

-- the key of a put that is being written from here on
abbrev pub writing_of : Bool → List ℕ → Option (List ℕ)
writing_of true key = Some key
writing_of false key = None

-- what a put that is taken tells first
abbrev pub put_notes : List ℕ → Option (List ℕ) → List Note
put_notes key None = Unqueued key ∷ []
put_notes key (Some writing) = Unqueued key ∷ Writing writing ∷ []

-- ---- reclaim

-- it is the machine's: the region, the state, its notes told, and the marks taken that its losses cover
pub record IsReclaimed (reclaiming : Reclaiming) (nvm : Nvm) (region : Option ℕ) (before after : Heard) (memory left : Memory) : Type 0 where
  pub region_is : region ≡ reclaiming.region
  pub nvm_is : nvm ≡ reclaiming.change.nvm
  pub told : after ≡ told_more before reclaiming.change.part
  pub marks : left ≡ unmarked_by reclaiming.change.part memory
