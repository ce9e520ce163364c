-- A result of any job of the small engine keeps the invariant.
use Rattle.std.proofs.Common.{◌≡◌, ℕ, Bool, true, false, List, [], ◌∷◌, Option, Some, None, refl, ap, ◌∙◌, subst}
use Rattle.std.specs.Prelude.{is_some}
use Rattle.hc_types.specs.Config.{Config}
use Rattle.hc_types.specs.declared.config.FlashConfig.{FlashConfig}
use Rattle.hc_types.specs.FlashEntry.{FlashEntry}
use Rattle.hc_memory.specs.Memory.{Memory}
use Rattle.hc_engines.specs.Engine.{Op, Put, Get, Delete, Flush, Reclaim, Order, IoResult, Page, Written, Failed, Loss}
use Rattle.hc_engines.specs.small.BigHash as bighash
use Rattle.hc_engines.specs.small.BigHash.{Phase, Reading, Writing, make_job}
use Rattle.hc_engines.specs.small.Held.{order_of}
use Rattle.hc_engines.specs.large.Block as block
use Rattle.hc_history.specs.Note.{Note}
use Rattle.hc_history.specs.Pages.{bytes_at}
use Rattle.hc_machine.specs.Nvm.{Nvm, Task, Putting, Deleting, Filling, Flushing, Job, is_job, job_at}
use Rattle.hc_machine.specs.Cache.{Cache}
use Rattle.hc_machine.specs.Workers as workers
use Rattle.hc_invariant.specs.Jobs.{is_taken, RunsAs, AllRun, small_job, large_work}
use Rattle.hc_invariant.specs.Good.{FlashPart, IsResult}
use Rattle.hc_invariant.specs.Laws.{Keeps}
use Rattle.hc_theorem.specs.buckets.SmallJobs.{FinishSmallKeeps}
use Rattle.hc_proof.specs.books.RegionBooks.{GetTells, GetGives}
use Rattle.hc_theorem.specs.fills.Filling.{FillEnds}
use Rattle.hc_theorem.proofs.buckets.CacheJobs.{same-job}
use Rattle.hc_theorem.proofs.buckets.FirstNote.{own-job}
use Rattle.hc_theorem.proofs.buckets.Finishing.{own, before-good}
use Rattle.hc_theorem.proofs.buckets.PutsDeletes.{With, put_reads, put_read_failed, put_written, put_write_failed, delete_reads, delete_read_failed, delete_written, delete_write_failed}
use Rattle.hc_theorem.proofs.buckets.Gets.{get_reads, get_failed}
use Rattle.hc_proof.proofs.frames.JobLists.{job_number}

run-at : (nvm : Nvm) (number : ℕ) (jobs : List Job) (job : Job) → job_at number jobs ≡ Some job → AllRun nvm jobs → RunsAs nvm job.task job.order (small_job nvm job.number) (large_work nvm job.number)
run-at nvm number [] job h r = absurd (cc h)
run-at nvm number (x ∷ jobs) job h r = go (is_job number x) refl (λ e. run-at nvm number jobs job e r.1)
  where
    go : (t : Bool) → is_job number x ≡ t → (job_at number jobs ≡ Some job → RunsAs nvm job.task job.order (small_job nvm job.number) (large_work nvm job.number)) → RunsAs nvm job.task job.order (small_job nvm job.number) (large_work nvm job.number)
    go true p more = let same : x ≡ job = same-job x job (rw p at h) in subst (λ (j : Job). RunsAs nvm j.task j.order (small_job nvm j.number) (large_work nvm j.number)) same r.0
    go false p more = more (rw p at h)

-- there is flash
flash-on : (flash : Option FlashConfig) (older : List Note) (memory : Memory) (nvm : Nvm) → FlashPart flash older memory (Some nvm) → (f : FlashConfig) × (flash ≡ Some f)
flash-on None older memory nvm h = absurd h
flash-on (Some flash) older memory nvm h = (flash, refl)

module _ (ends : FillEnds) (tells : GetTells) (gives : GetGives) (config : Config) (flash : FlashConfig) (older : List Note) (cache : Cache) (nvm : Nvm) (number bucket : ℕ) where
  abbrev Result : Phase → IoResult → Type 0
  Result phase result = IsResult (bytes_at older) (Some (order_of nvm.pair.small.flash.page bucket phase)) result

  abbrev Here : Task → Op → Phase → Type 0
  Here task op phase = With config flash older cache nvm number bucket task (order_of nvm.pair.small.flash.page bucket phase) op phase

  put_result : (k : List ℕ) (e : FlashEntry) (phase : Phase) (result : IoResult) → Here (Putting k) (Put e) phase → Result phase result → Keeps config older (workers.finish number result cache)
  put_result k e Reading (Page bytes) w i = put_reads config flash older cache nvm number bucket k e bytes w i
  put_result k e Reading Failed w i = put_read_failed config flash older cache nvm number bucket k e w
  put_result k e Reading Written w i = absurd i
  put_result k e (Writing es losses) Written w i = put_written config flash older cache nvm number bucket k e es losses w
  put_result k e (Writing es losses) Failed w i = put_write_failed config flash older cache nvm number bucket k e es losses w
  put_result k e (Writing es losses) (Page bytes) w i = absurd i

  -- what a delete writes loses nothing
  no-loss : (k : List ℕ) (es : List FlashEntry) (losses : List Loss) → Here (Deleting k) (Delete k) (Writing es losses) → losses ≡ []
  no-loss k es losses w =
      let b = before-good config flash older cache nvm w.on w.nvm_is w.good in
      let o = own-job flash older nvm number (make_job number bucket (Delete k) (Writing es losses)) b.good.engines w.there in
      o.out.fit.3.1

  delete_result : (k : List ℕ) (phase : Phase) (result : IoResult) → Here (Deleting k) (Delete k) phase → is_taken k nvm.tombstones ≡ true → Result phase result → Keeps config older (workers.finish number result cache)
  delete_result k Reading (Page bytes) w taken i = delete_reads config flash older cache nvm number bucket k bytes w i
  delete_result k Reading Failed w taken i = delete_read_failed config flash older cache nvm number bucket k w
  delete_result k Reading Written w taken i = absurd i
  delete_result k (Writing es losses) Written w taken i =
      let none = no-loss k es losses w in
      delete_written config flash older cache nvm number bucket k es (subst (λ (ls : List Loss). Here (Deleting k) (Delete k) (Writing es ls)) none w) taken
  delete_result k (Writing es losses) Failed w taken i = delete_write_failed config flash older cache nvm number bucket k es losses w
  delete_result k (Writing es losses) (Page bytes) w taken i = absurd i

  get_result : (k : List ℕ) (phase : Phase) (result : IoResult) → Here Filling (Get k) phase → Result phase result → Keeps config older (workers.finish number result cache)
  get_result k Reading (Page bytes) w i = get_reads ends tells gives config flash older cache nvm number bucket k bytes w i
  get_result k Reading Failed w i = get_failed ends tells gives config flash older cache nvm number bucket k w
  get_result k Reading Written w i = absurd i
  get_result k (Writing es losses) result w i =
      let b = before-good config flash older cache nvm w.on w.nvm_is w.good in
      let o = own-job flash older nvm number (make_job number bucket (Get k) (Writing es losses)) b.good.engines w.there in
      absurd o.out.fit.3

  abbrev With_job : Task → Order → Op → Phase → Type 0
  With_job task order op phase = With config flash older cache nvm number bucket task order op phase

  -- by its task and its operation
  any_result : (task : Task) (order : Order) (op : Op) (phase : Phase) (result : IoResult) → With config flash older cache nvm number bucket task order op phase → RunsAs nvm task order (Some (make_job number bucket op phase)) None
      → IsResult (bytes_at older) (Some order) result → Keeps config older (workers.finish number result cache)
  any_result (Putting k) order (Put e) phase result w r i =
      put_result k e phase result (subst (λ (x : Order). With_job (Putting k) x (Put e) phase) r.1 w) (subst (λ (x : Order). IsResult (bytes_at older) (Some x) result) r.1 i)
  any_result (Putting k) order (Get key) phase result w r i = absurd (let h = r.0 in cc h)
  any_result (Putting k) order (Delete key) phase result w r i = absurd (let h = r.0 in cc h)
  any_result (Putting k) order Flush phase result w r i = absurd (let h = r.0 in cc h)
  any_result (Putting k) order Reclaim phase result w r i = absurd (let h = r.0 in cc h)
  any_result (Deleting k) order op phase result w r i =
      delete_result k phase result (subst (λ (x : Op). Here (Deleting k) x phase) r.0 (subst (λ (x : Order). With_job (Deleting k) x op phase) r.2 w)) r.1 (subst (λ (x : Order). IsResult (bytes_at older) (Some x) result) r.2 i)
  any_result Filling order (Get k) phase result w r i =
      get_result k phase result (subst (λ (x : Order). With_job Filling x (Get k) phase) r.1 w) (subst (λ (x : Order). IsResult (bytes_at older) (Some x) result) r.1 i)
  any_result Filling order (Put e) phase result w r i = absurd r.0
  any_result Filling order (Delete key) phase result w r i = absurd r.0
  any_result Filling order Flush phase result w r i = absurd r.0
  any_result Filling order Reclaim phase result w r i = absurd r.0
  any_result Flushing order op phase result w r i = absurd r

-- ---- all together

no-work : (nvm : Nvm) (task : Task) (order : Order) (sj : bighash.Job) (w : Option block.Work) → RunsAs nvm task order (Some sj) w → w ≡ None
no-work nvm (Putting k) order sj None r = refl
no-work nvm (Deleting k) order sj None r = refl
no-work nvm Filling order sj None r = refl
no-work nvm Flushing order sj None r = absurd r
no-work nvm (Putting k) order sj (Some w) r = absurd r
no-work nvm (Deleting k) order sj (Some w) r = absurd r
no-work nvm Filling order sj (Some w) r = absurd r
no-work nvm Flushing order sj (Some w) r = absurd r

-- a result that is handed in to a job of the small engine
pub finish_small : FillEnds → GetTells → GetGives → FinishSmallKeeps
finish_small ends tells gives config older cache number result nvm job is at some good r = go (small_job nvm number) refl some
  where
    go : (o : Option bighash.Job) → small_job nvm number ≡ o → is_some o ≡ true → Keeps config older (workers.finish number result cache)
    go None p h = absurd (cc h)
    go (Some sj) p h =
        let part : FlashPart config.flash older cache.memory (Some nvm) = subst (λ (n : Option Nvm). FlashPart config.flash older cache.memory n) is good.flash in
        let f = flash-on config.flash older cache.memory nvm part in
        let flash = f.0 in
        let b = before-good config flash older cache nvm f.1 is good in
        let number_is = job_number number nvm.jobs job at in
        let runs = run-at nvm number nvm.jobs job at b.good.jobs.run in
        let here : RunsAs nvm job.task job.order (small_job nvm number) (large_work nvm number) = subst (λ (n : ℕ). RunsAs nvm job.task job.order (small_job nvm n) (large_work nvm n)) number_is runs in
        let small_here : RunsAs nvm job.task job.order (Some sj) (large_work nvm number) = subst (λ (o : Option bighash.Job). RunsAs nvm job.task job.order o (large_work nvm number)) p here in
        let none = no-work nvm job.task job.order sj (large_work nvm number) small_here in
        let own_here : RunsAs nvm job.task job.order (Some sj) None = subst (λ (w : Option block.Work). RunsAs nvm job.task job.order (Some sj) w) none small_here in
        let o = own-job flash older nvm number sj b.good.engines p in
        let there : small_job nvm number ≡ Some (make_job number sj.bucket sj.op sj.phase) = p ∙ ap (λ (n : ℕ). Some (make_job n sj.bucket sj.op sj.phase)) o.number_is in
        let own_job : job_at number nvm.jobs ≡ Some (own number job.task job.order) = at ∙ ap (λ (n : ℕ). Some (own n job.task job.order)) number_is in
        let same_job : RunsAs nvm job.task job.order (Some (make_job number sj.bucket sj.op sj.phase)) None = subst (λ (n : ℕ). RunsAs nvm job.task job.order (Some (make_job n sj.bucket sj.op sj.phase)) None) o.number_is own_here in
        let of_order : IsResult (bytes_at older) (Some job.order) result = rw (is, at) at r in
        any_result ends tells gives config flash older cache nvm number sj.bucket job.task job.order sj.op sj.phase result (record { on = f.1; nvm_is = is; good = good; at = own_job; there = there; none = none }) same_job of_order
