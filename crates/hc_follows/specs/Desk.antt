-- What stands between two steps of a run: the notes so far, the filled slots, the jobs that are out, the adds that wait, and
-- what stands on the device. No function of the cache is named, nor how it keeps what it keeps.
use Rattle.std.specs.Prelude.{ℕ, ◌==◌, nat_lt, not, List, [], ◌∷◌, filter, find, Option, if◌then◌else◌}
use Rattle.hc_engines.specs.Engine.{Order, IoResult}
use Rattle.hc_history.specs.Note.{Note}
use Rattle.hc_history.specs.Books.{Charge, charges}

-- what fills a slot: its charge, and what its Open asked for
pub record Kept : Type 0 where
  pub slot : ℕ
  pub charge : ℕ
  pub key : List ℕ
  pub value : List ℕ
  pub expiry : ℕ

-- a job that is out: its order, and the result that waits, once there is one
pub record Out : Type 0 where
  pub job : ℕ
  pub order : Order
  pub result : Option IoResult

-- an add that waits, or waited, and the charge that it keeps
pub record Adding : Type 0 where
  pub call : ℕ
  pub charge : ℕ

-- a page that was written, and what stands there since; nothing that is known, where the write failed
pub record Sheet : Type 0 where
  pub page : ℕ
  pub bytes : Option (List ℕ)

-- The notes so far, the newest first; the slots that are filled, in order; jobs; adds; what stands on the device, and how many
-- operations that failed by itself.
pub record Desk : Type 0 where
  pub older : List Note
  pub slots : List Kept
  pub jobs : List Out
  pub adds : List Adding
  pub pages : List Sheet
  pub failures : ℕ

-- before the first step
abbrev pub new_desk : Desk
new_desk = record { older = []; slots = []; jobs = []; adds = []; pages = []; failures = 0 }

-- what fills the slot, if it is filled
abbrev pub kept_at : ℕ → List Kept → Option Kept
kept_at slot all = find (λ (kept : Kept). kept.slot == slot) all

-- the slot is emptied
abbrev pub without_kept : ℕ → List Kept → List Kept
without_kept slot all = filter (λ (kept : Kept). not (kept.slot == slot)) all

-- a slot is filled: they stand in order of their numbers
abbrev pub with_kept : Kept → List Kept → List Kept
with_kept kept [] = kept ∷ []
with_kept kept (other ∷ others) = if nat_lt kept.slot other.slot then kept ∷ other ∷ others else other ∷ with_kept kept others

-- the job, if it is out
abbrev pub job_out : ℕ → List Out → Option Out
job_out job all = find (λ (out : Out). out.job == job) all

-- the job is over
abbrev pub without_out : ℕ → List Out → List Out
without_out job all = filter (λ (out : Out). not (out.job == job)) all

-- the charges that are open
abbrev pub open_charges : List Note → List Charge
open_charges older = filter (λ (charge : Charge). not charge.linked) (charges older)
