-- What a result comes to that is handed in.
use Rattle.std.specs.Prelude.{◌≡◌, ℕ, ◌+◌, List, [], ◌∷◌, Option, Some, None, option_map, if◌then◌else◌}
use Rattle.hc_memory.specs.Memory.{Memory}
use Rattle.hc_engines.specs.Engine.{IoResult, Next}
use Rattle.hc_engines.specs.pair.Pair.{resume}
use Rattle.hc_history.specs.Told.{Heard}
use Rattle.hc_machine.specs.Nvm.{Nvm, Task, Filling, Fill, Waiter, Job, is_job, job_at, fill_at, fill_by, without_fill}
use Rattle.hc_machine.specs.Takes.{Take, Taken, Filled}
use Rattle.hc_nvm.specs.Taking.{IsTaken}

-- it is the machine's, which answers
abbrev pub IsFinished : Option Taken → Nvm → Take → Option Filled → Heard → Heard → Memory → Memory → Type 0
IsFinished None nvm take filled before after memory left = ⊥
IsFinished (Some taken) nvm take filled before after memory left = IsTaken taken nvm take filled before after memory left

-- the key that a job brings, unless it is an orphan
abbrev pub brought_key : ℕ → List Fill → Task → Option (List ℕ)
brought_key number fills Filling = option_map (λ (fill : Fill). fill.key) (fill_by number fills)
brought_key number fills task = None

-- the engines have the result, and the rest is as it was
pub record IsHandedIn (number : ℕ) (result : IoResult) (before after : Nvm) (next : Next) (key : Option (List ℕ)) : Type 0 where
  pub job : Job
  pub there : job_at number before.jobs ≡ Some job
  pub came : resume number result before.pair ≡ Some (record { pair = after.pair; next = next })
  pub same : after ≡ record before { pair = after.pair }
  pub key_is : key ≡ brought_key number before.fills job.task

-- where the job with this number stands
abbrev pub place : ℕ → List Job → Option ℕ
place number [] = None
place number (job ∷ jobs) = if is_job number job then Some 0 else option_map (λ at. at + 1) (place number jobs)

-- ---- the fill that a job ends

-- the fills that are left
abbrev pub left_by : Option (List ℕ) → List Fill → List Fill
left_by None fills = fills
left_by (Some key) fills = without_fill key fills

-- the calls that waited for it
abbrev pub waiters_by : Option (List ℕ) → List Fill → Option (List Waiter)
waiters_by None fills = None
waiters_by (Some key) fills = option_map (λ (fill : Fill). fill.waiters) (fill_at key fills)
