-- A result of a job whose operation is the small engine's.
use Rattle.std.specs.Prelude.{◌≡◌, ℕ, true, List, Some, is_some}
use Rattle.hc_types.specs.Config.{Config}
use Rattle.hc_engines.specs.Engine.{IoResult}
use Rattle.hc_history.specs.Note.{Note}
use Rattle.hc_history.specs.Pages.{bytes_at}
use Rattle.hc_machine.specs.Nvm.{Nvm, Job, job_at}
use Rattle.hc_machine.specs.Cache.{Cache}
use Rattle.hc_machine.specs.Workers as workers
use Rattle.hc_machine.specs.World.{order_in}
use Rattle.hc_invariant.specs.Jobs.{small_job}
use Rattle.hc_invariant.specs.Good.{Agrees, IsResult}
use Rattle.hc_invariant.specs.Laws.{Keeps}

abbrev pub FinishSmallKeeps : Type 0
FinishSmallKeeps = (config : Config) (older : List Note) (cache : Cache) (number : ℕ) (result : IoResult) (nvm : Nvm) (job : Job) → cache.nvm ≡ Some nvm → job_at number nvm.jobs ≡ Some job → is_some (small_job nvm number) ≡ true
    → Agrees config older cache → IsResult (bytes_at older) (order_in cache.nvm number) result → Keeps config older (workers.finish number result cache)
