-- What anybody may ask of a cache: each call of its clients and workers, with what it does. A step of a schedule, a line of
-- a trace and what a lock guards are such calls.
use Rattle.std.specs.Prelude.{ℕ, List, [], ◌∷◌, ◌++◌}
use Rattle.hc_engines.specs.Engine.{IoResult}
use Rattle.hc_memory.specs.Item.{Handle}
use Rattle.hc_history.specs.Note.{Note}
use Rattle.hc_machine.specs.Cache.{Cache, Moved}
use Rattle.hc_machine.specs.Evicting.{allocate}
use Rattle.hc_machine.specs.Calls as calls
use Rattle.hc_machine.specs.Workers as workers

pub data CacheCall : Type 0 where
  Allocates : (pool : ℕ) (key value : List ℕ) (ttl : ℕ) → CacheCall
  Inserts : (client : ℕ) (handle : Handle) → CacheCall
  Adds : (client : ℕ) (handle : Handle) → CacheCall
  Discards : (handle : Handle) → CacheCall
  Finds : (client : ℕ) (key : List ℕ) → CacheCall
  Removes : (client : ℕ) (key : List ℕ) → CacheCall
  Replies : (call : ℕ) → CacheCall
  Ticks : (moment : ℕ) → CacheCall
  Writes : CacheCall
  Fills : CacheCall
  Reclaims : CacheCall
  -- any result of this job is handed in
  Finishes : (number : ℕ) (result : IoResult) → CacheCall

abbrev pub act : CacheCall → Cache → Moved
act (Allocates pool key value ttl) cache = allocate pool key value ttl cache
act (Inserts client handle) cache = calls.insert_or_replace client handle cache
act (Adds client handle) cache = calls.insert client handle cache
act (Discards handle) cache = calls.discard handle cache
act (Finds client key) cache = calls.find client key cache
act (Removes client key) cache = calls.remove client key cache
act (Replies call) cache = calls.take_reply call cache
act (Ticks moment) cache = calls.tick moment cache
act Writes cache = workers.writer_take cache
act Fills cache = workers.filler_take cache
act Reclaims cache = workers.reclaim cache
act (Finishes number result) cache = workers.finish number result cache

-- ---- one after another

pub record Acted : Type 0 where
  pub cache : Cache
  pub log : List Note

abbrev pub told_before : List Note → Acted → Acted
told_before part acted = record { cache = acted.cache; log = part ++ acted.log }

abbrev pub and_then : (Cache → Acted) → Moved → Acted
and_then f moved = told_before moved.part (f moved.cache)

abbrev pub acts : List CacheCall → Cache → Acted
acts [] cache = record { cache = cache; log = [] }
acts (call ∷ later) cache = and_then (acts later) (act call cache)
