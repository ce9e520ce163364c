-- How contracts see the operations under way.
use Rattle.std.specs.Prelude.{◌≡◌, ◌==◌, ℕ, List, [], map, Option, Some, None}
use Rattle.hc_types.specs.Tally.{count}
use Rattle.hc_engines.specs.large.Block.{Reading, Work, Writing, Getting, Job, work_of}
use Rattle.hc_block.specs.declared.jobs.Work.{Work as Works}
use Rattle.hc_block.specs.declared.jobs.Work.TheVariants as works

abbrev pub work_seen : {A : Type 0} → Works A → Work
work_seen (works.Writing region bytes) = Writing region bytes
work_seen (works.Getting reading) = Getting reading

abbrev pub job_of : {A : Type 0} → ℕ × Works A → Job
job_of p = record { number = p.0; work = work_seen p.1 }

-- the operations in order of their numbers
abbrev pub jobs_of : {A : Type 0} → List (ℕ × Works A) → List Job
jobs_of entries = map job_of entries

-- no operation has the number
abbrev pub IsFreeIn : ℕ → List Job → Type 0
IsFreeIn number jobs = count (λ (job : Job). job.number == number) jobs ≡ 0

-- ---- reads

abbrev pub no_reading : Reading
no_reading = record { key = []; place = record { region = 0; offset = 0; length = 0 }; got = []; next = 0; until = 0; rest = [] }

abbrev pub reading_in : Option Work → Reading
reading_in None = no_reading
reading_in (Some (Writing r bytes)) = no_reading
reading_in (Some (Getting reading)) = reading

-- the read that the operation with this number is
abbrev pub reading_at : ℕ → List Job → Reading
reading_at number jobs = reading_in (work_of number jobs)

-- the operation with the number is a read
abbrev pub IsReading : ℕ → List Job → Type 0
IsReading number jobs = work_of number jobs ≡ Some (Getting (reading_at number jobs))
