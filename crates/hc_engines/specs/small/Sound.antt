-- What holds of BigHash at all times, whatever the device answers.
use Rattle.std.specs.Prelude.{◌≡◌, ℕ, ◌+◌, ◌-◌, ◌≤◌, ◌<◌, ◌^◌, true, List, [], ◌∷◌, length, Option, Some, None, ⊤}
use Rattle.hc_types.specs.declared.config.FlashConfig.{FlashConfig}
use Rattle.hc_types.specs.FlashEntry.{FlashEntry}
use Rattle.hc_types.specs.Loss.{Bucket, Fault}
use Rattle.hc_bucket.specs.Page.{IsSmall, Fits}
use Rattle.hc_bucket.specs.Reading.{page_at}
use Rattle.hc_engines.specs.Engine.{Op, Put, Get, Delete, Flush, Reclaim, IoResult, Page, Done, outcome_of}
use Rattle.hc_engines.specs.small.Entries.{size_of}
use Rattle.hc_engines.specs.small.BigHash.{BigHash, Job, Reading, Plan, ToWrite, Moved, is_ours, word_at, job_at, given_up, start, resume}

-- an entry that can be put: what every entry of the code is
pub record IsEntry (e : FlashEntry) : Type 0 where
  pub some_key : 1 ≤ length e.key
  pub key : length e.key ≤ 255
  pub pool : e.pool < 2 ^ 8
  pub expiry : e.expiry < 2 ^ 64

abbrev pub CanStart : Op → Type 0
CanStart (Put e) = IsEntry e
CanStart (Get key) = ⊤
CanStart (Delete key) = ⊤
CanStart Flush = ⊤
CanStart Reclaim = ⊤

-- an entry that is to be put has room on an empty page
abbrev pub HasRoom : ℕ → Op → Type 0
HasRoom size (Put e) = 4 + size_of e ≤ size
HasRoom size (Get key) = ⊤
HasRoom size (Delete key) = ⊤
HasRoom size Flush = ⊤
HasRoom size Reclaim = ⊤

-- an entry that is to be put is one of a page
abbrev pub CanPut : Op → Type 0
CanPut (Put e) = IsSmall e
CanPut (Get key) = ⊤
CanPut (Delete key) = ⊤
CanPut Flush = ⊤
CanPut Reclaim = ⊤

-- what is to be written fits a page
abbrev pub CanWrite : ℕ → Plan → Type 0
CanWrite size (ToWrite es losses) = Fits size es
CanWrite size plan = ⊤

-- the numbers of the configuration that BigHash goes by, within their limits
pub record Limits (flash : FlashConfig) : Type 0 where
  pub some_bucket : 1 ≤ flash.buckets
  pub most_buckets : flash.buckets ≤ 1048576
  pub least_page : 512 ≤ flash.page
  pub most_page : flash.page ≤ 4096
  pub small : flash.small_max ≤ flash.page - 16
  pub bits : flash.bits ≤ 64

-- each job is BigHash's, and of one of its buckets
abbrev pub AllOurs : FlashConfig → List Job → Type 0
AllOurs flash [] = ⊤
AllOurs flash (job ∷ jobs) = CanStart job.op × (is_ours flash job.op ≡ true) × (job.bucket < flash.buckets) × AllOurs flash jobs

pub record Sound (flash : FlashConfig) (words : List (Option ℕ)) (jobs : List Job) : Type 0 where
  pub limits : Limits flash
  pub buckets : length words ≡ flash.buckets
  pub ours : AllOurs flash jobs

abbrev pub IsSound : BigHash → Type 0
IsSound s = Sound s.flash s.words s.jobs

-- an operation that is started keeps it so, under whatever number
abbrev pub StartIsSound : Type 0
StartIsSound = (s : BigHash) (number : ℕ) (op : Op) → IsSound s → CanStart op → IsSound (start s number op).state

-- so does any result at all, honest or not
abbrev pub ResumeIsSound : Type 0
ResumeIsSound = (s : BigHash) (number : ℕ) (result : IoResult) (m : Moved) → IsSound s → resume s number result ≡ Some m → IsSound m.state

-- the bucket of this job was given up: it is fresh, and lost as a whole
pub record GivenUp (job : Job) (m : Moved) : Type 0 where
  pub word : word_at m.state job.bucket ≡ None
  pub next : m.next ≡ Done (outcome_of (given_up job.op) (record { scope = Bucket job.bucket; cause = Fault } ∷ []))

-- bytes that are no page give the bucket up for which they were read
abbrev pub NoPageGivesUp : Type 0
NoPageGivesUp = (s : BigHash) (number : ℕ) (job : Job) (bytes : List ℕ) → job_at number s.jobs ≡ Some job → job.phase ≡ Reading → page_at s.flash.page bytes ≡ None
    → (m : Moved) × (resume s number (Page bytes) ≡ Some m) × GivenUp job m
