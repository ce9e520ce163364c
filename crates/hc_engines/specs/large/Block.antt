-- The large engine: its state, and what a step of it leaves.
use Rattle.std.specs.Prelude.{ℕ, ◌==◌, nat_lt, List, [], ◌∷◌, Option, Some, None, if◌then◌else◌, set}
use Rattle.hc_engines.specs.Engine.{Order, Outcome, nothing}
use Rattle.hc_engines.specs.large.Region.{Region}
use Rattle.hc_engines.specs.large.Index.{Place, Indexed}

-- a read of an entry: of which key, from which place, what of its pages was read, which page of the region is read next,
-- the first page that isn't read, and the bytes that were in the buffer when it began
pub record Reading : Type 0 where
  pub key : List ℕ
  pub place : Place
  pub got : List ℕ
  pub next : ℕ
  pub until : ℕ
  pub rest : List ℕ

-- an operation under way
pub data Work : Type 0 where
  -- the region's next page is out, with these bytes
  Writing : (region : ℕ) (bytes : List ℕ) → Work
  -- a page is read for a get
  Getting : (reading : Reading) → Work

pub record Job : Type 0 where
  pub number : ℕ
  pub work : Work

pub record Block : Type 0 where
  pub regions : List Region
  -- the region that entries are appended to
  pub current : Option ℕ
  -- the regions that wait for their flush, the one sealed first in front
  pub sealed : List ℕ
  -- the regions on flash in the order of their flushes, those that drain since included
  pub flushed : List ℕ
  pub index : List Indexed
  -- the operations under way, in order of their numbers
  pub jobs : List Job

-- the new state, what holds already, and the operation that goes on with an order
pub record Moved : Type 0 where
  pub state : Block
  pub outcome : Outcome
  pub order : Option Order

abbrev pub finished : Block → Outcome → Moved
finished s outcome = record { state = s; outcome = outcome; order = None }

abbrev pub unmoved : Block → Moved
unmoved s = finished s nothing

-- ---- changes of the state

abbrev pub with_region : ℕ → Region → Block → Block
with_region r region s = record s { regions = set s.regions r region }

-- ---- operations under way

-- the operation with this number
abbrev pub work_of : ℕ → List Job → Option Work
work_of number [] = None
work_of number (job ∷ jobs) = if job.number == number then Some job.work else work_of number jobs

abbrev pub without_job : ℕ → List Job → List Job
without_job number [] = []
without_job number (job ∷ jobs) = if job.number == number then without_job number jobs else job ∷ without_job number jobs

-- an operation more, at its place in the order
abbrev pub job_added : ℕ → Work → List Job → List Job
job_added number work [] = record { number = number; work = work } ∷ []
job_added number work (job ∷ jobs) = if nat_lt job.number number then job ∷ job_added number work jobs else record { number = number; work = work } ∷ job ∷ jobs

-- an operation that no other has the number of
abbrev pub with_job : ℕ → Work → Block → Block
with_job number work s = record s { jobs = job_added number work s.jobs }

abbrev pub end_job : ℕ → Block → Block
end_job number s = record s { jobs = without_job number s.jobs }
