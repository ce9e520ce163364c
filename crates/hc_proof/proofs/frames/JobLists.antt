-- Jobs: one goes, one goes on with another order, one comes.
use Rattle.std.proofs.Common.{◌≡◌, ℕ, ◌+◌, ◌≤◌, ◌==◌, Bool, true, false, not, ◌||◌, List, [], ◌∷◌, ◌++◌, Option, Some, None, refl, ap, arith, cond, subst, eqb-true}
use Rattle.std.proofs.lemmas.Bool.{eqb-true}
use Rattle.std.specs.Prelude.{if◌then◌else◌, is_some}
use Rattle.std.specs.List.{list_any}
use Rattle.hc_types.specs.Tally.{tally, count}
use Rattle.hc_engines.specs.Engine.{Order}
use Rattle.hc_machine.specs.Nvm.{Job, is_job, job_at, without_job, ordered, puts, Nvm}
use Rattle.hc_invariant.specs.Jobs.{RunsAs, AllRun, small_job, large_work}

-- ---- one is found

pub job_number : (number : ℕ) (jobs : List Job) (job : Job) → job_at number jobs ≡ Some job → job.number ≡ number
job_number number [] job e = absurd (cc)
job_number number (x ∷ jobs) job e = go (x.number == number) refl e (λ f. job_number number jobs job f)
  where
    go : (t : Bool) → (x.number == number) ≡ t → (if t then Some x else job_at number jobs) ≡ Some job → (job_at number jobs ≡ Some job → job.number ≡ number) → job.number ≡ number
    go true t e more = let same : x ≡ job = cc in rw (← same) (eqb-true x.number number t)
    go false t e more = more e

-- ---- one goes

pub gone_at : (number n : ℕ) (jobs : List Job) → job_at n (without_job number jobs) ≡ (if n == number then None else job_at n jobs)
gone_at number n [] = go (n == number)
  where
    go : (t : Bool) → ◌≡◌ {A = Option Job} None (if t then None else None)
    go true = refl
    go false = refl
gone_at number n (x ∷ jobs) = go (x.number == number) refl (x.number == n) refl (n == number) refl (gone_at number n jobs)
  where
    go : (t : Bool) → (x.number == number) ≡ t → (u : Bool) → (x.number == n) ≡ u → (v : Bool) → (n == number) ≡ v → job_at n (without_job number jobs) ≡ (if n == number then None else job_at n jobs)
        → job_at n (without_job number (x ∷ jobs)) ≡ (if n == number then None else job_at n (x ∷ jobs))
    go true t true u true v h = rw (t, v) (rw v at h)
    go true t true u false v h = absurd (grind (arith, t, u, v))
    go true t false u true v h = rw (t, v) (rw v at h)
    go true t false u false v h = rw (t, v, u) (rw v at h)
    go false t true u true v h = absurd (grind (arith, t, u, v))
    go false t true u false v h = rw (t, v) (rw u refl)
    go false t false u true v h = rw (t, v) (rw u (rw v at h))
    go false t false u false v h = rw (t, v, u) (rw v at h)

pub gone_fewer : (test : Job → Bool) (number : ℕ) (jobs : List Job) → count test (without_job number jobs) ≤ count test jobs
gone_fewer test number [] = omega arith
gone_fewer test number (x ∷ jobs) = go (x.number == number) (gone_fewer test number jobs)
  where
    go : (t : Bool) → count test (without_job number jobs) ≤ count test jobs → count test (if not t then x ∷ without_job number jobs else without_job number jobs) ≤ (if test x then 1 else 0) + count test jobs
    go true h = omega arith
    go false h = omega arith

-- ---- one goes on

pub ordered_at : (number n : ℕ) (order : Order) (jobs : List Job) → is_some (job_at n (ordered number order jobs)) ≡ is_some (job_at n jobs)
ordered_at number n order [] = refl
ordered_at number n order (x ∷ jobs) = go (x.number == number) refl (x.number == n) refl (ordered_at number n order jobs)
  where
    go : (t : Bool) → (x.number == number) ≡ t → (u : Bool) → (x.number == n) ≡ u → is_some (job_at n (ordered number order jobs)) ≡ is_some (job_at n jobs)
        → is_some (job_at n (ordered number order (x ∷ jobs))) ≡ is_some (job_at n (x ∷ jobs))
    go true t true u h = rw (t, u) refl
    go true t false u h = rw (t, u) h
    go false t true u h = rw (t, u) refl
    go false t false u h = rw (t, u) h

pub ordered_many : (f : Job → ℕ) → ((job : Job) (order : Order) → f (record job { order = order }) ≡ f job) → (number : ℕ) (order : Order) (jobs : List Job) → tally f (ordered number order jobs) ≡ tally f jobs
ordered_many f same number order [] = refl
ordered_many f same number order (x ∷ jobs) = go (x.number == number) (ordered_many f same number order jobs)
  where
    go : (t : Bool) → tally f (ordered number order jobs) ≡ tally f jobs → f (if t then record x { order = order } else x) + tally f (ordered number order jobs) ≡ f x + tally f jobs
    go true h = let e = same x order in omega arith
    go false h = omega arith

pub ordered_puts : (key : List ℕ) (number : ℕ) (order : Order) (jobs : List Job) → list_any (λ (job : Job). puts key job.task) (ordered number order jobs) ≡ list_any (λ (job : Job). puts key job.task) jobs
ordered_puts key number order [] = refl
ordered_puts key number order (x ∷ jobs) = go (x.number == number) (ordered_puts key number order jobs)
  where
    go : (t : Bool) → list_any (λ (job : Job). puts key job.task) (ordered number order jobs) ≡ list_any (λ (job : Job). puts key job.task) jobs
        → list_any (λ (job : Job). puts key job.task) ((if t then record x { order = order } else x) ∷ ordered number order jobs) ≡ list_any (λ (job : Job). puts key job.task) (x ∷ jobs)
    go true h = ap (λ b. puts key x.task || b) h
    go false h = ap (λ b. puts key x.task || b) h

-- ---- one comes

pub come_at : (n : ℕ) (job : Job) (jobs : List Job) → job_at n (jobs ++ job ∷ []) ≡ None → (job_at n jobs ≡ None) × ((job.number == n) ≡ false)
come_at n job [] e = (refl, go (job.number == n) refl e)
  where
    go : (t : Bool) → (job.number == n) ≡ t → (if t then Some job else None) ≡ None → (job.number == n) ≡ false
    go true t e = absurd (cc)
    go false t e = t
come_at n job (x ∷ jobs) e = go (x.number == n) e (λ f. come_at n job jobs f)
  where
    go : (t : Bool) → (if t then Some x else job_at n (jobs ++ job ∷ [])) ≡ None → (job_at n (jobs ++ job ∷ []) ≡ None → (job_at n jobs ≡ None) × ((job.number == n) ≡ false))
        → ((if t then Some x else job_at n jobs) ≡ None) × ((job.number == n) ≡ false)
    go true e more = absurd (cc)
    go false e more = more e

pub come_none : (n : ℕ) (job : Job) (jobs : List Job) → job_at n jobs ≡ None → (job.number == n) ≡ false → job_at n (jobs ++ job ∷ []) ≡ None
come_none n job [] e o = rw o refl
come_none n job (x ∷ jobs) e o = go (x.number == n) e (λ f. come_none n job jobs f o)
  where
    go : (t : Bool) → (if t then Some x else job_at n jobs) ≡ None → (job_at n jobs ≡ None → job_at n (jobs ++ job ∷ []) ≡ None) → (if t then Some x else job_at n (jobs ++ job ∷ [])) ≡ None
    go true e more = absurd (cc)
    go false e more = more e

pub none_has : (n : ℕ) (jobs : List Job) → job_at n jobs ≡ None → count (is_job n) jobs ≡ 0
none_has n [] e = refl
none_has n (x ∷ jobs) e = go (x.number == n) e (λ f. none_has n jobs f)
  where
    go : (t : Bool) → (if t then Some x else job_at n jobs) ≡ None → (job_at n jobs ≡ None → count (is_job n) jobs ≡ 0) → (if t then 1 else 0) + count (is_job n) jobs ≡ 0
    go true e more = absurd (cc)
    go false e more = omega (arith, more e)

pub run_at : (nvm : Nvm) (number : ℕ) (jobs : List Job) (job : Job) → AllRun nvm jobs → job_at number jobs ≡ Some job → RunsAs nvm job.task job.order (small_job nvm job.number) (large_work nvm job.number)
run_at nvm number [] job run e = absurd cc
run_at nvm number (x ∷ jobs) job run e = step (is_job number x) (run_at nvm number jobs job run.1) e
  where
    step : (b : Bool) → (job_at number jobs ≡ Some job → RunsAs nvm job.task job.order (small_job nvm job.number) (large_work nvm job.number)) → cond b (Some x) (job_at number jobs) ≡ Some job → RunsAs nvm job.task job.order (small_job nvm job.number) (large_work nvm job.number)
    step true rest e = let same : x ≡ job = cc in subst (λ (j : Job). RunsAs nvm j.task j.order (small_job nvm j.number) (large_work nvm j.number)) same run.0
    step false rest e = rest e
