-- What each step of regions keeps: reclaim, a result of a region's write, and the writer's take of a page.
use Rattle.std.specs.Prelude.{◌≡◌, ℕ, ◌+◌, true, List, Some}
use Rattle.hc_types.specs.Config.{Config}
use Rattle.hc_types.specs.declared.config.FlashConfig.{FlashConfig}
use Rattle.hc_engines.specs.Engine.{Flush, Order, IoResult, Outcome, Io}
use Rattle.hc_history.specs.Note.{Note}
use Rattle.hc_history.specs.Lawful.{past}
use Rattle.hc_history.specs.Pages.{bytes_at}
use Rattle.hc_history.specs.Regions.{put_under_way, is_put_of}
use Rattle.hc_engines.specs.pair.Pair as pairs
use Rattle.hc_machine.specs.Nvm.{Nvm, Flushing, Job, job_at}
use Rattle.hc_machine.specs.Cache.{Cache, Moved}
use Rattle.hc_machine.specs.Workers as workers
use Rattle.hc_machine.specs.World.{order_in}
use Rattle.hc_invariant.specs.Good.{Agrees, IsResult, fills_of, OneFlush, Good}
use Rattle.hc_invariant.specs.Laws.{Steady, Keeps}

-- ---- what is kept

-- A step's part is lawful and the books agree with the cache after it; no region stands twice among those that were flushed where
-- none did; a large put that the last notes tell was told before; the fills are the same.
pub record KeptMore (config : Config) (older : List Note) (before : Cache) (part : List Note) (after : Cache) : Type 0 where
  pub steady : Steady config older part after
  pub once : OneFlush older → OneFlush (past older part)
  pub rested : (flash : FlashConfig) (key : List ℕ) → is_put_of key (put_under_way flash (past older part)) ≡ true → is_put_of key (put_under_way flash older) ≡ true
  pub fills : fills_of after.nvm ≡ fills_of before.nvm

abbrev pub KeepsMore : Config → List Note → Cache → Moved → Type 0
KeepsMore config older before moved = KeptMore config older before moved.part moved.cache

-- ---- the steps

-- a region is reclaimed, or none is to be
abbrev pub ReclaimKeepsMore : Type 0
ReclaimKeepsMore = (config : Config) (older : List Note) (cache : Cache) → Good config older cache → KeepsMore config older cache (workers.reclaim cache)

-- a result of a job that writes a region's page
abbrev pub FinishFlushKeeps : Type 0
FinishFlushKeeps = (config : Config) (older : List Note) (cache : Cache) (number : ℕ) (result : IoResult) (nvm : Nvm) (job : Job) → cache.nvm ≡ Some nvm → job_at number nvm.jobs ≡ Some job → job.task ≡ Flushing
    → Agrees config older cache → IsResult (bytes_at older) (order_in cache.nvm number) result → Keeps config older (workers.finish number result cache)

abbrev pub FinishFlushKeepsMore : Type 0
FinishFlushKeepsMore = (config : Config) (older : List Note) (cache : Cache) (number : ℕ) (result : IoResult) (nvm : Nvm) (job : Job) → cache.nvm ≡ Some nvm → job_at number nvm.jobs ≡ Some job → job.task ≡ Flushing
    → Agrees config older cache → KeepsMore config older cache (workers.finish number result cache)

abbrev pub WriterFlushKeepsMore : Type 0
WriterFlushKeepsMore = (config : Config) (older : List Note) (cache : Cache) (nvm : Nvm) (order : Order) (outcome : Outcome) → cache.nvm ≡ Some nvm → (pairs.start (nvm.made + 1) Flush nvm.pair).next ≡ Io order outcome
    → Agrees config older cache → KeepsMore config older cache (workers.writer_take cache)
