-- What a take and a result leave: which job comes, goes on or goes, and that each tombstone that is taken has its delete
-- under way.
use Rattle.std.specs.Prelude.{◌≡◌, ℕ, ◌+◌, Bool, true, false, List, [], ◌∷◌, ◌++◌}
use Rattle.hc_history.specs.Note.{Note, Begin, End, Read, Wrote}
use Rattle.hc_machine.specs.Nvm.{Nvm, Task, Job, without_job, ordered}
use Rattle.hc_machine.specs.Takes.{Take, Idle, Finished, Work, Taken}
use Rattle.hc_laws.specs.First.{NonePasses}

-- a call begins or ends, or a page is read or written
abbrev pub is_of_calls : Note → Bool
is_of_calls (Begin call client op) = true
is_of_calls (End call) = true
is_of_calls (Read page result) = true
is_of_calls (Wrote page bytes is_written) = true
is_of_calls note = false

-- none does; a region may open
abbrev pub AllMute : List Note → Type 0
AllMute notes = NonePasses is_of_calls notes

-- ---- jobs after a take, and after a result

-- a take begins one job more, or none
abbrev pub JobsTaken : Nvm → Take → List Job → Type 0
JobsTaken nvm Idle new = new ≡ nvm.jobs
JobsTaken nvm Finished new = new ≡ nvm.jobs
JobsTaken nvm (Work number order) new = (task : Task) × (number ≡ nvm.made + 1) × (new ≡ nvm.jobs ++ record { number = number; task = task; order = order } ∷ [])

pub record TakenSo (nvm : Nvm) (taken : Taken) : Type 0 where
  pub mute : AllMute taken.part
  pub jobs : JobsTaken nvm taken.take taken.nvm.jobs

-- a job whose result came is over, or goes on
abbrev pub JobsWent : ℕ → List Job → Take → List Job → Type 0
JobsWent number old Idle new = ⊥
JobsWent number old Finished new = new ≡ without_job number old
JobsWent number old (Work n order) new = (n ≡ number) × (new ≡ ordered number order old)

pub record WentSo (number : ℕ) (nvm : Nvm) (taken : Taken) : Type 0 where
  pub mute : AllMute taken.part
  pub jobs : JobsWent number nvm.jobs taken.take taken.nvm.jobs
