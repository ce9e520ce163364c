-- A result of any job, by whose operation it is: what each case is to keep.
use Rattle.std.specs.Prelude.{◌≡◌, ℕ, true, List, [], Some, None, is_some}
use Rattle.hc_types.specs.Config.{Config}
use Rattle.hc_engines.specs.Engine.{IoResult}
use Rattle.hc_engines.specs.large.Block.{Reading, Getting}
use Rattle.hc_history.specs.Note.{Note}
use Rattle.hc_history.specs.Pages.{bytes_at}
use Rattle.hc_machine.specs.Nvm.{Nvm, Filling, Flushing, Job, job_at}
use Rattle.hc_machine.specs.Cache.{Cache, Moved}
use Rattle.hc_machine.specs.Workers as workers
use Rattle.hc_machine.specs.World.{order_in}
use Rattle.hc_invariant.specs.Jobs.{small_job, large_work}
use Rattle.hc_invariant.specs.Good.{Agrees, IsResult}

-- what a step is to keep
abbrev pub Keeping : Type 1
Keeping = Config → List Note → Cache → Moved → Type 0

-- its operation is the small engine's
abbrev pub SmallFinish : Keeping → Type 0
SmallFinish keeps = (config : Config) (older : List Note) (cache : Cache) (number : ℕ) (result : IoResult) (nvm : Nvm) (job : Job) → cache.nvm ≡ Some nvm → job_at number nvm.jobs ≡ Some job → is_some (small_job nvm number) ≡ true
    → Agrees config older cache → IsResult (bytes_at older) (order_in cache.nvm number) result → keeps config older cache (workers.finish number result cache)

-- it is a get in the large engine
abbrev pub ReadFinish : Keeping → Type 0
ReadFinish keeps = (config : Config) (older : List Note) (cache : Cache) (number : ℕ) (result : IoResult) (nvm : Nvm) (job : Job) (reading : Reading) → cache.nvm ≡ Some nvm → job_at number nvm.jobs ≡ Some job → job.task ≡ Filling → small_job nvm number ≡ None
    → large_work nvm number ≡ Some (Getting reading) → Agrees config older cache → IsResult (bytes_at older) (order_in cache.nvm number) result → keeps config older cache (workers.finish number result cache)

-- it writes a region's page
abbrev pub FlushFinish : Keeping → Type 0
FlushFinish keeps = (config : Config) (older : List Note) (cache : Cache) (number : ℕ) (result : IoResult) (nvm : Nvm) (job : Job) → cache.nvm ≡ Some nvm → job_at number nvm.jobs ≡ Some job → job.task ≡ Flushing
    → Agrees config older cache → IsResult (bytes_at older) (order_in cache.nvm number) result → keeps config older cache (workers.finish number result cache)

-- all of them
abbrev pub EachFinish : Keeping → Type 0
EachFinish keeps = (config : Config) (older : List Note) (cache : Cache) (number : ℕ) (result : IoResult) → Agrees config older cache → IsResult (bytes_at older) (order_in cache.nvm number) result → keeps config older cache (workers.finish number result cache)

-- a step that is refused
abbrev pub StillKeeps : Keeping → Type 0
StillKeeps keeps = (config : Config) (older : List Note) (cache : Cache) (moved : Moved) → moved.cache ≡ cache → moved.part ≡ [] → Agrees config older cache → keeps config older cache moved
