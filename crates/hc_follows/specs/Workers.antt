-- Workers' steps and the device's: what each one's part and answer are, by the books, and which jobs are out after it.
use Rattle.std.specs.Prelude.{◌≡◌, ℕ, ◌+◌, ◌==◌, Bool, true, false, List, [], ◌∷◌, map, Option, Some, None, IsSome, if◌then◌else◌}
use Rattle.hc_types.specs.declared.config.FlashConfig.{FlashConfig}
use Rattle.hc_types.specs.declared.refusal.Refusal.TheVariants.{UnknownJob}
use Rattle.hc_engines.specs.Engine.{Order, Read, Write, IoResult, Page, Written, Failed}
use Rattle.hc_history.specs.Note as note
use Rattle.hc_history.specs.Note.{Note}
use Rattle.hc_history.specs.Regions.{is_one_of, flushed}
use Rattle.hc_machine.specs.Takes.{Idle, Finished, Work}
use Rattle.hc_machine.specs.Cache.{Refused, Took, Reclaimed}
use Rattle.hc_machine.specs.World.{Says, Made}
use Rattle.hc_machine.specs.Schedule.{Deed, Io, Finish, Told, Tells}
use Rattle.hc_follows.specs.Desk.{Out, Sheet, Desk, job_out, without_out}
use Rattle.hc_follows.specs.Telling.{NoCall}
use Rattle.hc_follows.specs.Idle.{wants_clean, is_clean_enough}

-- ---- takes

-- idle only where there is nothing to do; a job that begins has a new number
abbrev pub TakePart : Bool → List Out → Told → List Note → Type 0
TakePart nothing jobs (Tells (Says (Took Idle))) part = (nothing ≡ true) × (part ≡ [])
TakePart nothing jobs (Tells (Says (Took Finished))) part = NoCall part
TakePart nothing jobs (Tells (Says (Took (Work job order)))) part = (job_out job jobs ≡ None) × NoCall part
TakePart nothing jobs told part = ⊥

-- a region is given up only where too few are clean, and one that is flushed
abbrev pub ReclaimPart : Option FlashConfig → Desk → Told → List Note → Type 0
ReclaimPart flash desk (Tells (Says (Reclaimed None))) part = (is_clean_enough flash desk ≡ true) × (part ≡ [])
ReclaimPart flash desk (Tells (Says (Reclaimed (Some region)))) part = (wants_clean flash desk.older ≡ true) × (is_one_of region (flushed desk.older) ≡ true) × NoCall part
ReclaimPart flash desk told part = ⊥

-- ---- the device

-- what stands on a page, where it is known
abbrev pub sheet_at : ℕ → List Sheet → Option (List ℕ)
sheet_at page [] = None
sheet_at page (sheet ∷ older) = if sheet.page == page then sheet.bytes else sheet_at page older

-- What a device answers, and how many operations it failed by itself before and after: an operation fails where the step says
-- so, and that number stays, or else only where it rises by one. A page is read as it was last written.
abbrev pub IsResultOf : Order → Bool → List Sheet → ℕ → IoResult → ℕ → Type 0
IsResultOf order true pages before Failed after = after ≡ before
IsResultOf order false pages before Failed after = after ≡ before + 1
IsResultOf (Read page) false pages before (Page bytes) after = (sheet_at page pages ≡ Some bytes) × (after ≡ before)
IsResultOf (Write page bytes) false pages before Written after = after ≡ before
IsResultOf order fails pages before result after = ⊥

-- refused (21) where no such job is out, or its result waits
abbrev pub IoPart : Option Out → Bool → List Sheet → ℕ → Told → List Note → Type 0
IoPart None fails pages failures (Tells (Says (Refused UnknownJob))) part = part ≡ []
IoPart (Some out) fails pages failures (Tells (Says (Refused UnknownJob))) part = IsSome out.result × (part ≡ [])
IoPart (Some out) fails pages failures (Tells (Made result after)) part = (out.result ≡ None) × IsResultOf out.order fails pages failures result after × (part ≡ [])
IoPart out fails pages failures told part = ⊥

-- ---- results

-- the note tells that the order had the result
abbrev pub IsNoted : Order → IoResult → Note → Type 0
IsNoted (Read page) (Page bytes) (note.Read p (Some b)) = (p ≡ page) × (b ≡ bytes)
IsNoted (Read page) Failed (note.Read p None) = p ≡ page
IsNoted (Write page bytes) Written (note.Wrote p b true) = (p ≡ page) × (b ≡ bytes)
IsNoted (Write page bytes) Failed (note.Wrote p b false) = (p ≡ page) × (b ≡ bytes)
IsNoted order result note = ⊥

-- the result is told first, and no other
abbrev pub IsToldFirst : Order → Option IoResult → List Note → Type 0
IsToldFirst order (Some result) (note ∷ rest) = IsNoted order result note × NoCall rest
IsToldFirst order result part = ⊥

abbrev pub result_out : Option Out → Option IoResult
result_out None = None
result_out (Some out) = out.result

-- refused (21) where no result of the job waits; where it goes on, it keeps its number
abbrev pub FinishPart : ℕ → Option Out → Told → List Note → Type 0
FinishPart job out (Tells (Says (Refused UnknownJob))) part = (result_out out ≡ None) × (part ≡ [])
FinishPart job (Some out) (Tells (Says (Took Finished))) part = IsToldFirst out.order out.result part
FinishPart job (Some out) (Tells (Says (Took (Work number order)))) part = (number ≡ job) × IsToldFirst out.order out.result part
FinishPart job out told part = ⊥

-- ---- what stands after

abbrev pub jobs_after : Deed → Told → List Out → List Out
jobs_after (Io job fails) (Tells (Made result failures)) jobs = map (λ (out : Out). if out.job == job then record out { result = Some result } else out) jobs
jobs_after (Finish job) (Tells (Says (Took Finished))) jobs = without_out job jobs
jobs_after deed (Tells (Says (Took (Work job order)))) jobs = record { job = job; order = order; result = None } ∷ without_out job jobs
jobs_after deed told jobs = jobs

-- what a result leaves on the page that its order writes
abbrev pub pages_by : Order → IoResult → List Sheet → List Sheet
pages_by (Write page bytes) Written pages = record { page = page; bytes = Some bytes } ∷ pages
pages_by (Write page bytes) Failed pages = record { page = page; bytes = None } ∷ pages
pages_by order result pages = pages

abbrev pub pages_made : Option Out → IoResult → List Sheet → List Sheet
pages_made None result pages = pages
pages_made (Some out) result pages = pages_by out.order result pages

abbrev pub pages_after : Deed → Told → List Out → List Sheet → List Sheet
pages_after (Io job fails) (Tells (Made result failures)) jobs pages = pages_made (job_out job jobs) result pages
pages_after deed told jobs pages = pages

abbrev pub failures_after : Told → ℕ → ℕ
failures_after (Tells (Made result failures)) before = failures
failures_after told before = before
