-- How a fill is over, as it can be known before anything changes.
use Rattle.std.specs.Prelude.{◌≡◌, ℕ, ◌+◌, List, Option, Some, None, length, option_map, IsSome}
use Rattle.hc_memory.specs.Memory.{Memory}
use Rattle.hc_engines.specs.Engine.{IoResult, Loss}
use Rattle.hc_pair.specs.Endings as pair
use Rattle.hc_pair.specs.Endings.{Ends}
use Rattle.hc_machine.specs.Cache.{unmarked_by}
use Rattle.hc_machine.specs.Nvm.{Nvm, Fill, Job, fill_at, job_at, next_fill}
use Rattle.hc_machine.specs.Takes.{Taken, Filled, finish, filler_take, found_in, loss_notes}
use Rattle.hc_nvm.specs.Filled.{over_of}
use Rattle.hc_nvm.specs.Finishing.{brought_key, waiters_by}

pub record Ending : Type 0 where
  -- the key of the fill that ends; none of an orphan
  pub key : Option (List ℕ)
  -- how its get is over
  pub over : pair.Ending

-- at most so many notes are told then
abbrev pub most_told : List Loss → Nvm → ℕ
most_told losses nvm = length losses + (length nvm.tombstones + 5)

-- the fill that ends: what was found, and the calls that wait for the key
abbrev pub filled_in : Ending → List Fill → Option Filled
filled_in ending fills = over_of (found_in ending.over.outcome.answer) (waiters_by ending.key fills)

-- the machine's step comes to what is known of it before
pub record Shows (taken : Taken) (fills : List Fill) (ending : Ending) : Type 0 where
  pub filled : taken.filled ≡ filled_in ending fills
  -- no other losses are told
  pub losses : (memory : Memory) → unmarked_by taken.part memory ≡ unmarked_by (loss_notes ending.over.outcome.losses) memory
  -- where there is a key, calls wait for it
  pub waits : (key : List ℕ) → ending.key ≡ Some key → IsSome (fill_at key fills)

-- ---- with a result that is handed in

-- the get of the job with the number is over with this result, and so
pub record EndsFill (number : ℕ) (came : IoResult) (nvm : Nvm) (ending : Ending) : Type 0 where
  pub ends : Ends number came nvm.pair ending.over
  pub there : IsSome (job_at number nvm.jobs)
  pub key_is : (job : Job) → job_at number nvm.jobs ≡ Some job → ending.key ≡ brought_key number nvm.fills job.task
  pub steps : IsSome (finish number came nvm)
  pub shows : (taken : Taken) → finish number came nvm ≡ Some taken → Shows taken nvm.fills ending

-- how a get is over with a result; where none is, no fill ends
abbrev pub IsEnding : ℕ → IoResult → Nvm → Option Ending → Type 0
IsEnding number came nvm None = (taken : Taken) → finish number came nvm ≡ Some taken → taken.filled ≡ None
IsEnding number came nvm (Some ending) = EndsFill number came nvm ending

-- ---- as it is taken

-- the fill that is next is over as it is taken, and so
pub record EndsAtOnce (nvm : Nvm) (ending : Ending) : Type 0 where
  pub key : List ℕ
  pub key_is : ending.key ≡ Some key
  pub next : option_map (λ (fill : Fill). fill.key) (next_fill nvm) ≡ Some key
  pub there : fill_at key nvm.fills ≡ next_fill nvm
  pub ends : pair.EndsAtOnce key nvm.pair ending.over
  pub shows : Shows (filler_take nvm) nvm.fills ending

-- how the fill is over that is next; where it isn't over as it is taken, no fill ends
abbrev pub IsEndingAtOnce : Nvm → Option Ending → Type 0
IsEndingAtOnce nvm None = (filler_take nvm).filled ≡ None
IsEndingAtOnce nvm (Some ending) = EndsAtOnce nvm ending
