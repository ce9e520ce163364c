-- BigHash as a machine: each bucket's word, the jobs under way, and what an operation or a result does.
use Rattle.std.specs.Prelude.{ℕ, ◌+◌, Bool, true, false, ◌==◌, List, [], ◌∷◌, ◌++◌, length, Option, Some, None, is_some, option_map, set, slice_index_or, if◌then◌else◌}
use Rattle.std.specs.List.{list_any}
use Rattle.hc_types.specs.declared.config.FlashConfig.{FlashConfig}
use Rattle.hc_types.specs.Loss.{Bucket, Fault}
use Rattle.hc_types.specs.Places.{bucket_at, is_small_by}
use Rattle.hc_types.specs.FlashEntry.{FlashEntry}
use Rattle.hc_bucket.specs.Page.{page_bytes}
use Rattle.hc_bucket.specs.Reading.{page_at}
use Rattle.hc_engines.specs.Engine.{Op, Put, Get, Delete, Flush, Reclaim, Read, Write, IoResult, Page, Written, Failed, Answer, Nothing, Over, Absent, Loss, outcome_of, nothing, found, Next, Busy, Io, Done}
use Rattle.hc_engines.specs.small.Bloom.{word_of, could_have}
use Rattle.hc_engines.specs.small.Entries.{under, without, page_put, put_losses}

-- what a job waits for
pub data Phase : Type 0 where
  -- its bucket's page is being read
  Reading : Phase
  -- its bucket's page is being written, with these entries; once it is, this is lost
  Writing : (entries : List FlashEntry) (losses : List Loss) → Phase

pub record Job : Type 0 where
  pub number : ℕ
  pub bucket : ℕ
  pub op : Op
  pub phase : Phase

pub record BigHash : Type 0 where
  pub flash : FlashConfig
  -- the word of each bucket; none for a fresh one
  pub words : List (Option ℕ)
  pub jobs : List Job

-- ---- parts

abbrev pub word_at : BigHash → ℕ → Option ℕ
word_at s bucket = slice_index_or s.words bucket None

-- the word has all bits of the key
abbrev pub tells : Option ℕ → List ℕ → Bool
tells None key = false
tells (Some word) key = could_have word key

-- BigHash could have the key
abbrev pub could_hold : BigHash → List ℕ → Bool
could_hold s key = tells (word_at s (bucket_at s.flash key)) key

abbrev pub is_busy : ℕ → List Job → Bool
is_busy bucket jobs = list_any (λ job. job.bucket == bucket) jobs

abbrev pub job_at : ℕ → List Job → Option Job
job_at number [] = None
job_at number (job ∷ jobs) = if job.number == number then Some job else job_at number jobs

-- where the job with this number stands
abbrev pub place_of : ℕ → List Job → Option ℕ
place_of number [] = None
place_of number (job ∷ jobs) = if job.number == number then Some 0 else option_map (λ at. at + 1) (place_of number jobs)

abbrev pub without_job : ℕ → List Job → List Job
without_job number [] = []
without_job number (job ∷ jobs) = if job.number == number then jobs else job ∷ without_job number jobs

-- the key of an operation
abbrev pub key_of : Op → List ℕ
key_of (Put e) = e.key
key_of (Get key) = key
key_of (Delete key) = key
key_of Flush = []
key_of Reclaim = []

-- the operation is BigHash's, and not the other engine's
abbrev pub is_ours : FlashConfig → Op → Bool
is_ours flash (Put e) = is_small_by flash e.key (length e.value)
is_ours flash (Get key) = true
is_ours flash (Delete key) = true
is_ours flash Flush = false
is_ours flash Reclaim = false

-- the bucket of an operation that is BigHash's
abbrev pub our_bucket : FlashConfig → Op → Option ℕ
our_bucket flash op = if is_ours flash op then Some (bucket_at flash (key_of op)) else None

-- ---- plans: what comes next for an operation on a bucket

pub data Plan : Type 0 where
  -- the page is to be read
  ToRead : Plan
  -- the page is to be written with these entries; then this is lost
  ToWrite : (entries : List FlashEntry) (losses : List Loss) → Plan
  -- it is over, and the bucket is as it was
  ToEnd : (answer : Answer) → Plan
  -- it is over, and the page that was written has this word
  ToKeep : (word : ℕ) (losses : List Loss) → Plan
  -- the bucket is given up
  ToGiveUp : Plan

-- an operation begins on a bucket with this word
abbrev pub begun : Option ℕ → Op → Plan
begun None (Put e) = ToWrite (e ∷ []) []
begun None (Get key) = ToEnd Absent
begun None (Delete key) = ToEnd Over
begun (Some word) (Put e) = ToRead
begun (Some word) (Get key) = if could_have word key then ToRead else ToEnd Absent
begun (Some word) (Delete key) = ToRead
begun word Flush = ToEnd Nothing
begun word Reclaim = ToEnd Nothing

-- its page was read, and has these entries
abbrev pub was_read : ℕ → Op → List FlashEntry → Plan
was_read size (Put e) es = ToWrite (page_put size e es) (put_losses size e es)
was_read size (Get key) es = ToEnd (found (under key es))
was_read size (Delete key) es = if is_some (under key es) then ToWrite (without key es) [] else ToEnd Over
was_read size Flush es = ToEnd Nothing
was_read size Reclaim es = ToEnd Nothing

abbrev pub read_as : ℕ → Op → Option (List FlashEntry) → Plan
read_as size op None = ToGiveUp
read_as size op (Some es) = was_read size op es

-- a result comes; none where the job doesn't wait for such a one
abbrev pub went_on : ℕ → Op → Phase → IoResult → Option Plan
went_on size op Reading (Page bytes) = Some (read_as size op (page_at size bytes))
went_on size op Reading Failed = Some ToGiveUp
went_on size op Reading Written = None
went_on size op (Writing es losses) Written = Some (ToKeep (word_of es) losses)
went_on size op (Writing es losses) Failed = Some ToGiveUp
went_on size op (Writing es losses) (Page bytes) = None

-- ---- carrying a plan out

-- what a get answers where its bucket was given up
abbrev pub given_up : Op → Answer
given_up (Get key) = Absent
given_up op = Over

abbrev pub make_job : ℕ → ℕ → Op → Phase → Job
make_job number bucket op phase = record { number = number; bucket = bucket; op = op; phase = phase }

-- what the job waits for then; none where it is over
abbrev pub waits : Plan → Option Phase
waits ToRead = Some Reading
waits (ToWrite es losses) = Some (Writing es losses)
waits (ToEnd answer) = None
waits (ToKeep word losses) = None
waits ToGiveUp = None

abbrev pub with_job : List Job → ℕ → ℕ → Op → Option Phase → List Job
with_job jobs number bucket op None = jobs
with_job jobs number bucket op (Some phase) = jobs ++ make_job number bucket op phase ∷ []

abbrev pub next_of : ℕ → ℕ → Op → Plan → Next
next_of size bucket op ToRead = Io (Read bucket) nothing
next_of size bucket op (ToWrite es losses) = Io (Write bucket (page_bytes size es)) nothing
next_of size bucket op (ToEnd answer) = Done (outcome_of answer [])
next_of size bucket op (ToKeep word losses) = Done (outcome_of Over losses)
next_of size bucket op ToGiveUp = Done (outcome_of (given_up op) (record { scope = Bucket bucket; cause = Fault } ∷ []))

abbrev pub jobs_after : List Job → ℕ → ℕ → Op → Plan → List Job
jobs_after jobs number bucket op plan = with_job (without_job number jobs) number bucket op (waits plan)

abbrev pub is_given_up : Plan → Bool
is_given_up ToRead = false
is_given_up (ToWrite es losses) = false
is_given_up (ToEnd answer) = false
is_given_up (ToKeep word losses) = false
is_given_up ToGiveUp = true

abbrev pub words_after : List (Option ℕ) → ℕ → Plan → List (Option ℕ)
words_after words bucket ToRead = words
words_after words bucket (ToWrite es losses) = words
words_after words bucket (ToEnd answer) = words
words_after words bucket (ToKeep word losses) = set words bucket (Some word)
words_after words bucket ToGiveUp = set words bucket None

abbrev pub carried_out : BigHash → ℕ → ℕ → Op → Plan → BigHash
carried_out s number bucket op plan = record { flash = s.flash; words = words_after s.words bucket plan; jobs = jobs_after s.jobs number bucket op plan }

-- ---- the two calls

pub record Moved : Type 0 where
  pub state : BigHash
  pub next : Next

abbrev pub moved : BigHash → ℕ → ℕ → Op → Plan → Moved
moved s number bucket op plan = record { state = carried_out s number bucket op plan; next = next_of s.flash.page bucket op plan }

abbrev pub start_at : BigHash → ℕ → Op → Option ℕ → Moved
start_at s number op None = record { state = s; next = Done nothing }
start_at s number op (Some bucket) = if is_busy bucket s.jobs then record { state = s; next = Busy } else moved s number bucket op (begun (word_at s bucket) op)

-- an operation is started under this number
abbrev pub start : BigHash → ℕ → Op → Moved
start s number op = start_at s number op (our_bucket s.flash op)

abbrev pub resumed : BigHash → Job → Option Plan → Option Moved
resumed s job plan = option_map (moved s job.number job.bucket job.op) plan

abbrev pub resume_job : BigHash → Option Job → IoResult → Option Moved
resume_job s None result = None
resume_job s (Some job) result = resumed s job (went_on s.flash.page job.op job.phase result)

-- the result of the order of this job is handed in; none where there is no such job, or it doesn't wait for such a result
abbrev pub resume : BigHash → ℕ → IoResult → Option Moved
resume s number result = resume_job s (job_at number s.jobs) result

-- ---- the second call by parts

-- the job with this number goes on by a plan
abbrev pub carried : BigHash → ℕ → Plan → Option Moved
carried s number plan = option_map (λ job. moved s job.number job.bucket job.op plan) (job_at number s.jobs)

-- the page that was being written is written
abbrev pub kept_as : Phase → Option Plan
kept_as Reading = None
kept_as (Writing es losses) = Some (ToKeep (word_of es) losses)

abbrev pub kept_job : BigHash → Option Job → Option Moved
kept_job s None = None
kept_job s (Some job) = resumed s job (kept_as job.phase)
