-- The laws: each kind of step keeps what holds of the cache whatever the device answers.
use Rattle.std.specs.Prelude.{◌≡◌, ℕ, List, ◌∷◌, ◌++◌, Some, None}
use Rattle.hc_types.specs.Config.{Config}
use Rattle.hc_engines.specs.Engine.{IoResult}
use Rattle.hc_memory.specs.Item.{Item, Handle}
use Rattle.hc_memory.specs.Memory.{victims_of, after_room}
use Rattle.hc_machine.specs.Nvm.{Fill, put_at, fill_at}
use Rattle.hc_machine.specs.Cache.{Cache, new_cache, with_memory}
use Rattle.hc_machine.specs.Evicting.{allocate, all_leave}
use Rattle.hc_machine.specs.Calls as calls
use Rattle.hc_machine.specs.Workers as workers
use Rattle.hc_machine.specs.Calls.{queue_of}
use Rattle.hc_invariant.specs.Jobs.{AllWish}
use Rattle.hc_invariant.specs.Good.{fills_of}
use Rattle.hc_invariant.specs.Structure.{Structured}

abbrev pub NewIsStructured : Type 0
NewIsStructured = (config : Config) → Structured (new_cache config)

abbrev pub AllocateIsStructured : Type 0
AllocateIsStructured = (cache : Cache) (pool : ℕ) (key value : List ℕ) (ttl : ℕ) → Structured cache → Structured (allocate pool key value ttl cache).cache

abbrev pub InsertIsStructured : Type 0
InsertIsStructured = (cache : Cache) (client : ℕ) (handle : Handle) → Structured cache → Structured (calls.insert_or_replace client handle cache).cache

abbrev pub AddIsStructured : Type 0
AddIsStructured = (cache : Cache) (client : ℕ) (handle : Handle) → Structured cache → Structured (calls.insert client handle cache).cache

abbrev pub DiscardIsStructured : Type 0
DiscardIsStructured = (cache : Cache) (handle : Handle) → Structured cache → Structured (calls.discard handle cache).cache

abbrev pub FindIsStructured : Type 0
FindIsStructured = (cache : Cache) (client : ℕ) (key : List ℕ) → Structured cache → Structured (calls.find client key cache).cache

abbrev pub RemoveIsStructured : Type 0
RemoveIsStructured = (cache : Cache) (client : ℕ) (key : List ℕ) → Structured cache → Structured (calls.remove client key cache).cache

abbrev pub ReplyIsStructured : Type 0
ReplyIsStructured = (cache : Cache) (call : ℕ) → Structured cache → Structured (calls.take_reply call cache).cache

abbrev pub TickIsStructured : Type 0
TickIsStructured = (cache : Cache) (moment : ℕ) → Structured cache → Structured (calls.tick moment cache).cache

abbrev pub WriterIsStructured : Type 0
WriterIsStructured = (cache : Cache) → Structured cache → Structured (workers.writer_take cache).cache

abbrev pub FillerIsStructured : Type 0
FillerIsStructured = (cache : Cache) → Structured cache → Structured (workers.filler_take cache).cache

abbrev pub ReclaimIsStructured : Type 0
ReclaimIsStructured = (cache : Cache) → Structured cache → Structured (workers.reclaim cache).cache

-- under any number, and with any result
abbrev pub FinishIsStructured : Type 0
FinishIsStructured = (cache : Cache) (number : ℕ) (result : IoResult) → Structured cache → Structured (workers.finish number result cache).cache

-- ---- what it is for

-- as room is made and items leave one by one, each one's key doesn't wait when it leaves
abbrev pub EvictedNeverWaits : Type 0
EvictedNeverWaits = (cache : Cache) (pool want : ℕ) (gone left : List Item) (item : Item) → Structured cache → victims_of cache.memory pool want ≡ gone ++ item ∷ left
    → put_at item.key (queue_of (all_leave pool want gone (with_memory (after_room cache.memory pool want) cache)).cache.nvm) ≡ None

-- the adds that wait for a key are of it, and their charges are open
abbrev pub WaitingAddsAreOpen : Type 0
WaitingAddsAreOpen = (cache : Cache) (key : List ℕ) (fill : Fill) → Structured cache → fill_at key (fills_of cache.nvm) ≡ Some fill → AllWish cache.memory key fill.waiters
