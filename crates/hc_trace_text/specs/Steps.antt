-- The steps of a trace, and their answers.
use Rattle.std.specs.Prelude.{ℕ, Bool, List}
use Rattle.hc_types.specs.declared.refusal.Refusal.{Refusal}

-- what is to be stored: a value under a key, in a pool, for so many seconds (0: for good)
pub record NewItem : Type 0 where
  pub pool : ℕ
  pub key : List ℕ
  pub value : List ℕ
  pub ttl : ℕ

-- what a client does with the cache, or the clock does
pub data Step : Type 0 where
  -- the item is stored, in place of the key's item where there is one
  Set : (item : NewItem) → Step
  -- the item is stored where the key has no unexpired one
  Add : (item : NewItem) → Step
  Get : (key : List ℕ) → Step
  Del : (key : List ℕ) → Step
  -- the clock moves on to this second
  Now : (moment : ℕ) → Step

-- what a worker does with the cache, the device with a job, or a client that waited
pub data Work : Type 0 where
  -- the writer takes what is to be written next
  Writer : Work
  -- the filler takes what is to be read next
  Filler : Work
  -- a region is given up
  Reclaim : Work
  -- the operation of a job is made, or the device fails it
  Io : (job : ℕ) (fails : Bool) → Work
  -- the result of a job's operation is handed in
  Finish : (job : ℕ) → Work
  -- the reply of a call that waited is taken
  Reply : (call : ℕ) → Work

-- what a step is answered
pub data Answer : Type 0 where
  Stored : Answer
  Refused : (refusal : Refusal) → Answer
  Hit : (value : List ℕ) → Answer
  Miss : Answer
  Found : Answer
  Absent : Answer
  -- the second that holds
  Moment : (now : ℕ) → Answer
  -- what an add that waited found: an unexpired item
  Exists : Answer
  -- the call waits for flash, under this number
  Waiting : (call : ℕ) → Answer
  -- there is nothing to do
  Idle : Answer
  -- a piece of work is done
  Finished : Answer
  -- a job wants this page read, or written
  Reads : (job page : ℕ) → Answer
  Writes : (job page : ℕ) → Answer
  -- the operation was made, or failed
  Made : Answer
  Failed : Answer
  Reclaimed : (region : ℕ) → Answer
  -- the cache was closed and has gone on; or it wasn't at rest, and is as it was
  Restarted : Answer
  Busy : Answer
