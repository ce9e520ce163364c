-- The laws: each kind of step keeps the invariant, and tells a lawful part.
use Rattle.std.specs.Prelude.{ℕ, List, [], ◌∷◌, ◌++◌}
use Rattle.hc_types.specs.Config.{Config}
use Rattle.hc_engines.specs.Engine.{IoResult}
use Rattle.hc_memory.specs.Item.{Handle}
use Rattle.hc_history.specs.Note.{Note}
use Rattle.hc_history.specs.Pages.{bytes_at}
use Rattle.hc_history.specs.Lawful.{Allowed, Lawful, past}
use Rattle.hc_machine.specs.Cache.{Cache, Moved}
use Rattle.hc_machine.specs.Evicting.{allocate}
use Rattle.hc_machine.specs.Calls as calls
use Rattle.hc_machine.specs.Workers as workers
use Rattle.hc_machine.specs.World.{World, order_in, Line, Set, Add, step}
use Rattle.hc_invariant.specs.Good.{Agrees, Good, GoodRun, IsResult, IsSized}

-- what holds of a cache after a history
abbrev pub Invariant : Type 1
Invariant = Config → List Note → Cache → Type 0

-- a step's part is lawful, and this holds after it
pub record Kept (holds : Invariant) (config : Config) (older part : List Note) (new : Cache) : Type 0 where
  pub lawful : Lawful config older part
  pub good : holds config (past older part) new

abbrev pub KeptBy : Invariant → Config → List Note → Moved → Type 0
KeptBy holds config older moved = Kept holds config older moved.part moved.cache

-- the books agree after it
abbrev pub Steady : Config → List Note → List Note → Cache → Type 0
Steady config older part new = Kept Agrees config older part new

abbrev pub Keeps : Config → List Note → Moved → Type 0
Keeps config older moved = Kept Agrees config older moved.part moved.cache

-- ---- pieces of a step

-- a piece is lawful before this tail, which the step tells behind it
abbrev pub LawfulIn : Config → List Note → List Note → List Note → Type 0
LawfulIn config older [] tail = Unit {0}
LawfulIn config older (note ∷ piece) tail = Allowed config older note (piece ++ tail) × LawfulIn config (note ∷ older) piece tail

-- ---- one for each kind of step: where the one holds before it, its part is lawful, and the other holds after it

abbrev pub AllocateKeeps : Invariant → Invariant → Type 0
AllocateKeeps before after = (config : Config) (older : List Note) (cache : Cache) (pool : ℕ) (key value : List ℕ) (ttl : ℕ) → before config older cache → IsSized key [] 0 → KeptBy after config older (allocate pool key value ttl cache)

abbrev pub InsertKeeps : Invariant → Invariant → Type 0
InsertKeeps before after = (config : Config) (older : List Note) (cache : Cache) (client : ℕ) (handle : Handle) → before config older cache → IsSized handle.key handle.value handle.expiry → KeptBy after config older (calls.insert_or_replace client handle cache)

abbrev pub AddKeeps : Invariant → Invariant → Type 0
AddKeeps before after = (config : Config) (older : List Note) (cache : Cache) (client : ℕ) (handle : Handle) → before config older cache → IsSized handle.key handle.value handle.expiry → KeptBy after config older (calls.insert client handle cache)

abbrev pub DiscardKeeps : Invariant → Invariant → Type 0
DiscardKeeps before after = (config : Config) (older : List Note) (cache : Cache) (handle : Handle) → before config older cache → KeptBy after config older (calls.discard handle cache)

abbrev pub FindKeeps : Invariant → Invariant → Type 0
FindKeeps before after = (config : Config) (older : List Note) (cache : Cache) (client : ℕ) (key : List ℕ) → before config older cache → KeptBy after config older (calls.find client key cache)

abbrev pub RemoveKeeps : Invariant → Invariant → Type 0
RemoveKeeps before after = (config : Config) (older : List Note) (cache : Cache) (client : ℕ) (key : List ℕ) → before config older cache → KeptBy after config older (calls.remove client key cache)

abbrev pub ReplyKeeps : Invariant → Invariant → Type 0
ReplyKeeps before after = (config : Config) (older : List Note) (cache : Cache) (call : ℕ) → before config older cache → KeptBy after config older (calls.take_reply call cache)

abbrev pub TickKeeps : Invariant → Invariant → Type 0
TickKeeps before after = (config : Config) (older : List Note) (cache : Cache) (moment : ℕ) → before config older cache → KeptBy after config older (calls.tick moment cache)

abbrev pub WriterKeeps : Invariant → Invariant → Type 0
WriterKeeps before after = (config : Config) (older : List Note) (cache : Cache) → before config older cache → KeptBy after config older (workers.writer_take cache)

abbrev pub FillerKeeps : Invariant → Invariant → Type 0
FillerKeeps before after = (config : Config) (older : List Note) (cache : Cache) → before config older cache → KeptBy after config older (workers.filler_take cache)

abbrev pub ReclaimKeeps : Invariant → Invariant → Type 0
ReclaimKeeps before after = (config : Config) (older : List Note) (cache : Cache) → before config older cache → KeptBy after config older (workers.reclaim cache)

-- the result is what came of the job's order, by the books' pages
abbrev pub FinishKeeps : Invariant → Invariant → Type 0
FinishKeeps before after = (config : Config) (older : List Note) (cache : Cache) (number : ℕ) (result : IoResult) → before config older cache → IsResult (bytes_at older) (order_in cache.nvm number) result → KeptBy after config older (workers.finish number result cache)

-- each kind of step keeps the invariant
pub record Laws : Type 0 where
  pub allocates : AllocateKeeps Good Good
  pub inserts : InsertKeeps Good Good
  pub adds : AddKeeps Good Good
  pub discards : DiscardKeeps Good Good
  pub finds : FindKeeps Good Good
  pub removes : RemoveKeeps Good Good
  pub replies : ReplyKeeps Good Good
  pub ticks : TickKeeps Good Good
  pub writes : WriterKeeps Good Good
  pub fills : FillerKeeps Good Good
  pub reclaims : ReclaimKeeps Good Good
  pub finishes : FinishKeeps Good Good

-- ---- runs

-- what a line may name
abbrev pub LineSized : Line → Type 0
LineSized (Set pool key value ttl) = IsSized key [] 0
LineSized (Add pool key value ttl) = IsSized key [] 0
LineSized line = Unit {0}

abbrev pub StepKeeps : Type 0
StepKeeps = (config : Config) (log : List Note) (world : World) (line : Line) → GoodRun config log world → LineSized line → GoodRun config (log ++ (step line world).part) (step line world).world
