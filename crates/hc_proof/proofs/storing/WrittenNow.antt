-- What a job of the small engine writes is what is being written.
use Rattle.std.proofs.Common.{◌≡◌, ℕ, ◌==◌, Bool, true, false, ◌||◌, List, [], ◌∷◌, Option, Some, None, refl, ap, ◌∙◌, arith, subst}
use Rattle.std.specs.Prelude.{if◌then◌else◌, is_some}
use Rattle.std.specs.List.{list_any}
use Rattle.std.specs.Str.{bytes_eq}
use Rattle.std.proofs.lemmas.Bool.{eqb-true}
use Rattle.hc_types.specs.FlashEntry.{FlashEntry}
use Rattle.hc_engines.specs.Engine.{Pages, Op, Put, Get, Delete, Flush, Reclaim, Order}
use Rattle.hc_engines.specs.small.BigHash as bighash
use Rattle.hc_engines.specs.small.Held.{StateFits, JobsFit}
use Rattle.hc_engines.specs.large.Block as block
use Rattle.hc_memory.proofs.Keyed.{same_bytes}
use Rattle.hc_machine.specs.Nvm.{Nvm, Task, Putting, Deleting, Filling, Flushing, Job, is_job, job_at, puts, is_written_now}
use Rattle.hc_invariant.specs.Standing.{put_in, first_of, written_by}
use Rattle.hc_invariant.specs.Jobs.{JobsRun, RunsAs, small_job, large_work}
use Rattle.hc_types.specs.declared.config.FlashConfig.{FlashConfig}
use Rattle.hc_proof.proofs.frames.ByNumber.{same_number, found-passes}
use Rattle.hc_proof.proofs.frames.JobLists.{run_at}
use Rattle.hc_proof.proofs.calls.NoWaiting.{no_put}

-- a put under two keys has them both
same_put : (a b : List ℕ) (op : Op) → is_some (put_in a op) ≡ true → is_some (put_in b op) ≡ true → bytes_eq a b ≡ true
same_put a b (Put e) ha hb = go (bytes_eq e.key a) refl (bytes_eq e.key b) refl ha hb
  where
    go : (s : Bool) → bytes_eq e.key a ≡ s → (t : Bool) → bytes_eq e.key b ≡ t → is_some (if s then Some e else None) ≡ true → is_some (if t then Some e else None) ≡ true → bytes_eq a b ≡ true
    go true es true et h k = let one = same_bytes e.key a es in let two = same_bytes e.key b et in subst (λ (x : List ℕ). bytes_eq x b ≡ true) one et
    go false es t et h k = absurd cc
    go true es false et h k = absurd cc
same_put a b (Get k) ha hb = absurd cc
same_put a b (Delete k) ha hb = absurd cc
same_put a b Flush ha hb = absurd cc
same_put a b Reclaim ha hb = absurd cc

-- the job of such an operation puts the key
task_puts : (nvm : Nvm) (key : List ℕ) (task : Task) (order : Order) (job : bighash.Job) (work : Option block.Work) → RunsAs nvm task order (Some job) work → is_some (put_in key job.op) ≡ true → puts key task ≡ true
task_puts nvm key (Putting k) order job None r h = same_put k key job.op r.0 h
task_puts nvm key (Deleting k) order job None r h = absurd (let same = r.0 in let none : is_some (put_in key (Delete k)) ≡ true = subst (λ (op : Op). is_some (put_in key op) ≡ true) same h in cc)
task_puts nvm key Filling order job None r h = absurd (no_put key job.op r.0 h)
task_puts nvm key Flushing order job None r h = absurd r
task_puts nvm key (Putting k) order job (Some work) r h = absurd r
task_puts nvm key (Deleting k) order job (Some work) r h = absurd r
task_puts nvm key Filling order job (Some work) r h = absurd r
task_puts nvm key Flushing order job (Some work) r h = absurd r

any_there : (key : List ℕ) (n : ℕ) (jobs : List Job) (job : Job) → job_at n jobs ≡ Some job → puts key job.task ≡ true → list_any (λ (j : Job). puts key j.task) jobs ≡ true
any_there key n [] job e h = absurd cc
any_there key n (j ∷ jobs) job e h = go (is_job n j) e (λ f. any_there key n jobs job f h)
  where
    left : (a b : Bool) → a ≡ true → (a || b) ≡ true
    left a b e = grind arith

    right : (a b : Bool) → b ≡ true → (a || b) ≡ true
    right a b e = grind arith

    go : (b : Bool) → (if b then Some j else job_at n jobs) ≡ Some job → (job_at n jobs ≡ Some job → list_any (λ (x : Job). puts key x.task) jobs ≡ true) → (puts key j.task || list_any (λ (x : Job). puts key x.task) jobs) ≡ true
    go true f more = let same : j ≡ job = cc in left (puts key j.task) _ (rw same h)
    go false f more = right (puts key j.task) _ (more f)

-- the operation of the small engine that writes the key
found_put : (flash : FlashConfig) (words : ℕ → Option ℕ) (pages : Pages) (key : List ℕ) (jobs : List bighash.Job) → JobsFit flash words pages jobs → is_some (written_by key jobs) ≡ true → (job : bighash.Job) × ((bighash.job_at job.number jobs ≡ Some job) × (is_some (put_in key job.op) ≡ true))
found_put flash words pages key [] fit h = absurd cc
found_put flash words pages key (j ∷ jobs) fit h = go (put_in key j.op) refl h (found_put flash words pages key jobs fit.3)
  where
    other : (job : bighash.Job) → bighash.job_at job.number jobs ≡ Some job → (b : Bool) → (j.number == job.number) ≡ b → (if b then Some j else bighash.job_at job.number jobs) ≡ Some job
    other job e true same = let none : bighash.job_at job.number jobs ≡ None = subst (λ (n : ℕ). bighash.job_at n jobs ≡ None) (eqb-true j.number job.number same) fit.2 in absurd cc
    other job e false same = e

    go : (o : Option FlashEntry) → put_in key j.op ≡ o → is_some (first_of o (written_by key jobs)) ≡ true
        → (is_some (written_by key jobs) ≡ true → (job : bighash.Job) × ((bighash.job_at job.number jobs ≡ Some job) × (is_some (put_in key job.op) ≡ true)))
        → (job : bighash.Job) × ((bighash.job_at job.number (j ∷ jobs) ≡ Some job) × (is_some (put_in key job.op) ≡ true))
    go (Some e) p h rest = (j, (ap (λ (b : Bool). if b then Some j else bighash.job_at j.number jobs) (same_number j.number), rw p refl))
    go None p h rest = let more = rest h in (more.0, (other more.0 more.1.0 (j.number == more.0.number) refl, more.1.1))

-- what the small engine writes is being written
pub written_now : (nvm : Nvm) (pages : Pages) (key : List ℕ) → StateFits nvm.pair.small pages → JobsRun nvm → is_some (written_by key nvm.pair.small.jobs) ≡ true → is_written_now nvm key ≡ true
written_now nvm pages key fits jobs h =
    let one = found_put nvm.pair.small.flash (bighash.word_at nvm.pair.small) pages key nvm.pair.small.jobs fits.jobs_fit h in
    let number = one.0.number in
    go one.0 one.1.0 one.1.1 (job_at number nvm.jobs) refl
  where
    go : (small : bighash.Job) → bighash.job_at small.number nvm.pair.small.jobs ≡ Some small → is_some (put_in key small.op) ≡ true → (o : Option Job) → job_at small.number nvm.jobs ≡ o → is_written_now nvm key ≡ true
    go small there put None e = absurd (let none = jobs.small_ones small.number e in cc)
    go small there put (Some job) e =
        let number : job.number ≡ small.number = eqb-true job.number small.number (found-passes (is_job small.number) nvm.jobs job e) in
        let runs = run_at nvm small.number nvm.jobs job jobs.run e in
        let mine : small_job nvm job.number ≡ Some small = ap (small_job nvm) number ∙ there in
        let runs2 : RunsAs nvm job.task job.order (Some small) (large_work nvm job.number) = subst (λ (o : Option bighash.Job). RunsAs nvm job.task job.order o (large_work nvm job.number)) mine runs in
        any_there key small.number nvm.jobs job e (task_puts nvm key job.task job.order small (large_work nvm job.number) runs2 put)
