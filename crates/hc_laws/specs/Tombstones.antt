-- When a key's tombstone ends: where its delete is over, or its bucket is given up, and by no call of a client.
use Rattle.std.specs.Prelude.{◌≡◌, ℕ, ◌+◌, ◌==◌, Bool, true, false, ◌||◌, List, Option, Some, None}
use Rattle.std.specs.Str.{bytes_eq}
use Rattle.hc_memory.specs.Item.{Handle}
use Rattle.hc_engines.specs.Engine.{Delete, IoResult, Outcome, Next, Busy, Io, Done}
use Rattle.hc_engines.specs.pair.Pair as pairs
use Rattle.hc_engines.specs.pair.Pair.{bucket_in, start, resume}
use Rattle.hc_machine.specs.Nvm.{Nvm, Tombstone, Task, Deleting, Job, is_buried, job_at}
use Rattle.hc_machine.specs.Takes as takes
use Rattle.hc_machine.specs.Takes.{Taken, bucket_lost}
use Rattle.hc_machine.specs.Cache.{Cache}
use Rattle.hc_machine.specs.Evicting.{allocate}
use Rattle.hc_machine.specs.Calls.{discard, insert_or_replace, insert, find, remove, take_reply, tick, buried_at}
use Rattle.hc_machine.specs.Workers.{writer_take, filler_take, reclaim, finish}
use Rattle.hc_laws.specs.Serving.{ADelete, IsTurn}

-- a tombstone that the key has before is there after
abbrev pub Stays : List ℕ → Cache → Cache → Type 0
Stays key before after = buried_at before.nvm key ≡ true → buried_at after.nvm key ≡ true

-- ---- what ends one

-- the key's delete is over
abbrev pub is_delete_over : List ℕ → Task → Next → Bool
is_delete_over key (Deleting k) (Done outcome) = bytes_eq key k
is_delete_over key task next = false

-- the first loss is that of this bucket
abbrev pub is_lost_first : ℕ → Option ℕ → Bool
is_lost_first bucket None = false
is_lost_first bucket (Some lost) = bucket == lost

abbrev pub gives_up : ℕ → Next → Bool
gives_up bucket Busy = false
gives_up bucket (Io order outcome) = is_lost_first bucket (bucket_lost outcome.losses)
gives_up bucket (Done outcome) = is_lost_first bucket (bucket_lost outcome.losses)

-- it is the turn of the key's delete, and this is over at once
pub record DeletedAtOnce (key : List ℕ) (nvm : Nvm) : Type 0 where
  pub stone : Tombstone
  pub turn : IsTurn nvm (ADelete stone)
  pub own : bytes_eq key stone.key ≡ true
  pub outcome : Outcome
  pub over : (start (nvm.made + 1) (Delete stone.key) nvm.pair).next ≡ Done outcome

-- the result is that of a job by which the key's delete is over, or its bucket is given up
pub record EndedBy (number : ℕ) (result : IoResult) (key : List ℕ) (nvm : Nvm) : Type 0 where
  pub job : Job
  pub has_job : job_at number nvm.jobs ≡ Some job
  pub moved : pairs.Moved
  pub resumes : resume job.number result nvm.pair ≡ Some moved
  pub ends : (is_delete_over key job.task moved.next || gives_up (bucket_in nvm.pair key) moved.next) ≡ true

-- ---- the steps

pub record TombstoneEnds (key : List ℕ) (cache : Cache) : Type 0 where
  -- no call of a client ends it
  pub allocate : (pool : ℕ) (k value : List ℕ) (ttl : ℕ) → Stays key cache (allocate pool k value ttl cache).cache
  pub discard : (handle : Handle) → Stays key cache (discard handle cache).cache
  pub insert_or_replace : (client : ℕ) (handle : Handle) → Stays key cache (insert_or_replace client handle cache).cache
  pub insert : (client : ℕ) (handle : Handle) → Stays key cache (insert client handle cache).cache
  pub find : (client : ℕ) (k : List ℕ) → Stays key cache (find client k cache).cache
  pub remove : (client : ℕ) (k : List ℕ) → Stays key cache (remove client k cache).cache
  pub take_reply : (call : ℕ) → Stays key cache (take_reply call cache).cache
  pub tick : (moment : ℕ) → Stays key cache (tick moment cache).cache
  -- neither does a fill that begins, nor a region that is reclaimed
  pub filler_take : Stays key cache (filler_take cache).cache
  pub reclaim : Stays key cache (reclaim cache).cache
  -- the writer ends it only by a delete that is over at once, and that ends it
  pub by_writer : (nvm : Nvm) → cache.nvm ≡ Some nvm → is_buried nvm key ≡ true → buried_at (writer_take cache).cache.nvm key ≡ false → DeletedAtOnce key nvm
  pub at_once : (nvm : Nvm) → cache.nvm ≡ Some nvm → DeletedAtOnce key nvm → buried_at (writer_take cache).cache.nvm key ≡ false
  -- and a result only so. That ends it, before the calls that wait for a fill are served: an add among them may bury its key anew.
  pub by_result : (nvm : Nvm) (number : ℕ) (result : IoResult) → cache.nvm ≡ Some nvm → is_buried nvm key ≡ true → buried_at (finish number result cache).cache.nvm key ≡ false → EndedBy number result key nvm
  pub ended : (nvm : Nvm) (number : ℕ) (result : IoResult) (taken : Taken) → takes.finish number result nvm ≡ Some taken → EndedBy number result key nvm → is_buried taken.nvm key ≡ false

abbrev pub TombstonesEndByDeletesAndLosses : Type 0
TombstonesEndByDeletesAndLosses = (key : List ℕ) (cache : Cache) → TombstoneEnds key cache
