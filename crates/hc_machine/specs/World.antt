-- The cache over a device, moved by the lines of a trace.
use Rattle.std.specs.Prelude.{ℕ, ◌+◌, ◌==◌, Bool, true, false, not, ◌||◌, List, [], ◌∷◌, ◌++◌, filter, Option, Some, None, if◌then◌else◌}
use Rattle.hc_types.specs.Config.{Config}
use Rattle.hc_types.specs.declared.refusal.Refusal.{Refusal}
use Rattle.hc_types.specs.declared.refusal.Refusal.TheVariants.{UnknownJob}
use Rattle.hc_memory.specs.Item.{Handle}
use Rattle.hc_engines.specs.Engine as engine
use Rattle.hc_engines.specs.Engine.{Pages, Order, Read, Write, IoResult, Page, Written, Failed}
use Rattle.hc_history.specs.Note.{Note}
use Rattle.hc_machine.specs.Nvm.{Nvm, Job, job_at}
use Rattle.hc_machine.specs.Cache.{Cache, new_cache, Answer, Refused, Opened, Moved}
use Rattle.hc_machine.specs.Evicting.{allocate}
use Rattle.hc_machine.specs.Calls as calls
use Rattle.hc_machine.specs.Call.{CacheCall, Finds, Removes, Replies, Ticks, Writes, Fills, Reclaims, Finishes, act}

-- the result of a job's operation, until it is handed in
pub record Result : Type 0 where
  pub job : ℕ
  pub result : IoResult

pub record World : Type 0 where
  pub cache : Cache
  -- each page as it was last written, where it is known
  pub pages : Pages
  pub results : List Result
  -- which of its operations to come the device fails by itself, where no step fails them; behind the end it fails none
  pub breaks : List Bool
  -- how many it failed so
  pub failures : ℕ

abbrev pub unwritten : Pages
unwritten page = None

abbrev pub new_world : Config → List Bool → World
new_world config breaks = record { cache = new_cache config; pages = unwritten; results = []; breaks = breaks; failures = 0 }

pub data Line : Type 0 where
  Set : (pool : ℕ) (key value : List ℕ) (ttl : ℕ) → Line
  Add : (pool : ℕ) (key value : List ℕ) (ttl : ℕ) → Line
  Get : (key : List ℕ) → Line
  Del : (key : List ℕ) → Line
  At : (moment : ℕ) → Line
  Writer : Line
  Filler : Line
  Reclaim : Line
  Io : (job : ℕ) (fails : Bool) → Line
  Done : (job : ℕ) → Line
  Reply : (call : ℕ) → Line

-- what a line is answered
pub data Said : Type 0 where
  Says : (answer : Answer) → Said
  -- the device operation is made: its result, and how many the device has failed by itself
  Made : (result : IoResult) (failures : ℕ) → Said

pub record Stepped : Type 0 where
  pub world : World
  pub said : Said
  pub part : List Note

-- ---- calls

abbrev pub by_call : World → Moved → Stepped
by_call w moved = record { world = record w { cache = moved.cache }; said = Says moved.answer; part = moved.part }

-- a call of the cache, over its device
abbrev pub called : CacheCall → World → Stepped
called call w = by_call w (act call w.cache)

abbrev pub behind : List Note → Moved → Moved
behind part moved = record moved { part = part ++ moved.part }

-- a handle that is refused is given up
abbrev pub given_up : Handle → Answer → Moved → Moved
given_up handle (Refused refusal) moved = record (behind moved.part (calls.discard handle moved.cache)) { answer = Refused refusal }
given_up handle answer moved = moved

-- the item that was allocated is inserted
abbrev pub then_inserted : (Handle → Cache → Moved) → Answer → Moved → Moved
then_inserted insert (Opened handle) opened = behind opened.part (insert handle opened.cache)
then_inserted insert answer opened = opened

abbrev pub inserted : (Handle → Cache → Moved) → Moved → Moved
inserted insert opened = then_inserted insert opened.answer opened

abbrev pub put_new : Handle → Cache → Moved
put_new handle cache = put_by (calls.insert 0 handle cache)
  where
    put_by : Moved → Moved
    put_by moved = given_up handle moved.answer moved

-- ---- the device

abbrev pub result_at : ℕ → List Result → Option IoResult
result_at job [] = None
result_at job (r ∷ rs) = if r.job == job then Some r.result else result_at job rs

abbrev pub without_result : ℕ → List Result → List Result
without_result job rs = filter (λ (r : Result). not (r.job == job)) rs

abbrev pub order_in : Option Nvm → ℕ → Option Order
order_in None job = None
order_in (Some nvm) job = order_of (job_at job nvm.jobs)
  where
    order_of : Option Job → Option Order
    order_of None = None
    order_of (Some job) = Some job.order

abbrev pub refused : World → Refusal → Stepped
refused w refusal = record { world = w; said = Says (Refused refusal); part = [] }

abbrev pub read_of : Option (List ℕ) → IoResult
read_of None = Failed
read_of (Some bytes) = Page bytes

abbrev pub result_of : Order → Bool → Pages → IoResult
result_of order true pages = Failed
result_of (Read page) false pages = read_of (pages page)
result_of (Write page bytes) false pages = Written

-- the device fails its next operation by itself
abbrev pub breaks_next : List Bool → Bool
breaks_next [] = false
breaks_next (breaks ∷ rest) = breaks

-- what a step fails doesn't reach the device
abbrev pub breaks_after : Bool → List Bool → List Bool
breaks_after true breaks = breaks
breaks_after false [] = []
breaks_after false (breaks ∷ rest) = rest

abbrev pub failures_after : Bool → List Bool → ℕ → ℕ
failures_after true breaks failures = failures
failures_after false breaks failures = if breaks_next breaks then failures + 1 else failures

abbrev pub reached : Bool → World → World
reached fails w = record w { breaks = breaks_after fails w.breaks; failures = failures_after fails w.breaks w.failures }

abbrev pub made : World → ℕ → Order → IoResult → Stepped
made w job order result = record {
  world = record w { pages = engine.pages_after order result w.pages; results = record { job = job; result = result } ∷ w.results };
  said = Made result w.failures;
  part = [];
}

-- a job's operation is made, unless it was, and its result waits
abbrev pub io_of : World → ℕ → Bool → Option Order → Option IoResult → Stepped
io_of w job fails (Some order) None = made (reached fails w) job order (result_of order (fails || breaks_next w.breaks) w.pages)
io_of w job fails order result = refused w UnknownJob

abbrev pub done_of : World → ℕ → Option IoResult → Stepped
done_of w job None = refused w UnknownJob
done_of w job (Some result) = called (Finishes job result) (record w { results = without_result job w.results })

-- ---- runs

abbrev pub step : Line → World → Stepped
step (Set pool key value ttl) w = by_call w (inserted (calls.insert_or_replace 0) (allocate pool key value ttl w.cache))
step (Add pool key value ttl) w = by_call w (inserted put_new (allocate pool key value ttl w.cache))
step (Get key) w = called (Finds 0 key) w
step (Del key) w = called (Removes 0 key) w
step (At moment) w = called (Ticks moment) w
step Writer w = called Writes w
step Filler w = called Fills w
step Reclaim w = called Reclaims w
step (Io job fails) w = io_of w job fails (order_in w.cache.nvm job) (result_at job w.results)
step (Done job) w = done_of w job (result_at job w.results)
step (Reply call) w = called (Replies call) w

pub record Ran : Type 0 where
  pub world : World
  pub said : List Said
  pub log : List Note

abbrev pub and_then : (World → Ran) → Stepped → Ran
and_then f stepped = joined stepped.said stepped.part (f stepped.world)
  where
    joined : Said → List Note → Ran → Ran
    joined said part ran = record { world = ran.world; said = said ∷ ran.said; log = part ++ ran.log }

abbrev pub run_from : List Line → World → Ran
run_from [] w = record { world = w; said = []; log = [] }
run_from (line ∷ lines) w = and_then (run_from lines) (step line w)

abbrev pub run : Config → List Bool → List Line → Ran
run config breaks lines = run_from lines (new_world config breaks)

-- what a run answers and tells
abbrev pub seen : Ran → List Said × List Note
seen ran = (ran.said, ran.log)
