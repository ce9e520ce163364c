-- A result of any job, from the three cases.
use Rattle.std.proofs.Common.{◌≡◌, ℕ, true, List, Option, Some, None, refl, sym, subst}
use Rattle.std.specs.Prelude.{is_some}
use Rattle.hc_types.specs.Config.{Config}
use Rattle.hc_engines.specs.Engine.{Order, IoResult}
use Rattle.hc_engines.specs.small.BigHash as bighash
use Rattle.hc_engines.specs.large.Block.{Work, Writing, Getting}
use Rattle.hc_history.specs.Note.{Note}
use Rattle.hc_history.specs.Pages.{bytes_at}
use Rattle.hc_machine.specs.Nvm.{Nvm, Task, Filling, Flushing, Job, job_at}
use Rattle.hc_machine.specs.Cache.{Cache}
use Rattle.hc_machine.specs.Takes as takes
use Rattle.hc_machine.specs.Workers as workers
use Rattle.hc_machine.specs.World.{order_in}
use Rattle.hc_invariant.specs.Jobs.{RunsAs, small_job, large_work}
use Rattle.hc_invariant.specs.Good.{Agrees, IsResult}
use Rattle.hc_invariant.specs.Laws.{Keeps, FinishKeeps}
use Rattle.hc_proof.specs.jobs.FinishCases.{Keeping, SmallFinish, ReadFinish, FlushFinish, EachFinish, StillKeeps}
use Rattle.hc_proof.proofs.frames.JobLists.{job_number, run_at}
use Rattle.hc_proof.proofs.jobs.LargeFrame.{opened}

module _ (keeps : Keeping) (still : StillKeeps keeps) (small : SmallFinish keeps) (read : ReadFinish keeps) (flush : FlushFinish keeps)
    (config : Config) (older : List Note) (cache : Cache) (number : ℕ) (result : IoResult) (g : Agrees config older cache) (honest : IsResult (bytes_at older) (order_in cache.nvm number) result) where
  by_work : (nvm : Nvm) → cache.nvm ≡ Some nvm → (job : Job) → job_at number nvm.jobs ≡ Some job → (task : Task) → job.task ≡ task → (order : Order) (operation : Option bighash.Job) → small_job nvm number ≡ operation → (work : Option Work) → large_work nvm number ≡ work
      → RunsAs nvm task order operation work → keeps config older cache (workers.finish number result cache)
  by_work nvm n job at task t order (Some operation) s work w h = small config older cache number result nvm job n at (subst (λ (o : Option bighash.Job). is_some o ≡ true) (sym s) refl) g honest
  by_work nvm n job at Filling t order None s (Some (Getting reading)) w h = read config older cache number result nvm job reading n at t s w g honest
  by_work nvm n job at Flushing t order None s (Some (Writing r bytes)) w h = flush config older cache number result nvm job n at t g honest
  by_work nvm n job at task t order None s work w h = absurd h

  by_job : (nvm : Nvm) → cache.nvm ≡ Some nvm → (o : Option Job) → job_at number nvm.jobs ≡ o → keeps config older cache (workers.finish number result cache)
  by_job nvm n None at =
      subst (λ (x : Option Nvm). keeps config older cache (workers.finish_on x number result cache)) (sym n)
      (subst (λ (o : Option Job). keeps config older cache (workers.after_finish (takes.finish_job o result nvm) cache)) (sym at) (still config older cache (workers.after_finish None cache) refl refl g))
  by_job nvm n (Some job) at =
      by_work nvm n job at job.task refl job.order (small_job nvm number) refl (large_work nvm number) refl
      (subst (λ (k : ℕ). RunsAs nvm job.task job.order (small_job nvm k) (large_work nvm k)) (job_number number nvm.jobs job at) (run_at nvm number nvm.jobs job (opened config older cache nvm n g).good.jobs.run at))

  by_flash : (o : Option Nvm) → cache.nvm ≡ o → keeps config older cache (workers.finish number result cache)
  by_flash None n = subst (λ (x : Option Nvm). keeps config older cache (workers.finish_on x number result cache)) (sym n) (still config older cache (workers.finish_on None number result cache) refl refl g)
  by_flash (Some nvm) n = by_job nvm n (job_at number nvm.jobs) refl

pub each_finish : (keeps : Keeping) → StillKeeps keeps → SmallFinish keeps → ReadFinish keeps → FlushFinish keeps → EachFinish keeps
each_finish keeps still small read flush config older cache number result g honest = by_flash keeps still small read flush config older cache number result g honest cache.nvm refl

-- ---- the law of Laws

abbrev pub plainly : Keeping
plainly config older cache moved = Keeps config older moved

still_steady : StillKeeps plainly
still_steady config older cache moved c p g = record { lawful = rw p tt; good = rw (c, p) g }

pub finish_keeps : SmallFinish plainly → ReadFinish plainly → FlushFinish plainly → FinishKeeps Agrees Agrees
finish_keeps small read flush = each_finish plainly still_steady small read flush
