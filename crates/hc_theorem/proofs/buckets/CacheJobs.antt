-- The cache's jobs: one goes on with another order, or is over.
use Rattle.std.proofs.Common.{◌≡◌, ℕ, ◌+◌, ◌≤◌, ◌==◌, Bool, true, false, ◌||◌, List, [], ◌∷◌, Some, None, refl, arith, ap, sym, ◌∙◌}
use Rattle.std.specs.Prelude.{if◌then◌else◌, is_some, nat_lt}
use Rattle.std.specs.List.{list_any}
use Rattle.hc_types.specs.Tally.{tally, count}
use Rattle.hc_engines.specs.Engine.{Order}
use Rattle.hc_machine.specs.Nvm.{Task, Job, is_job, job_at, without_job, ordered}

-- ---- lists

pub any-count : {X : Type 0} (test : X → Bool) (xs : List X) → list_any test xs ≡ nat_lt 0 (count test xs)
any-count test [] = refl
any-count test (x ∷ xs) = grind (arith, any-count test xs)

-- ---- another order

ordered-step : {Y : Type 0} (f : Task → Y) (number : ℕ) (order : Order) (x : Job) (b : Bool) → f (if b then record x { order = order } else x).task ≡ f x.task
ordered-step f number order x true = refl
ordered-step f number order x false = refl

pub any-ordered : (test : Task → Bool) (number : ℕ) (order : Order) (jobs : List Job) → list_any (λ (job : Job). test job.task) (ordered number order jobs) ≡ list_any (λ (job : Job). test job.task) jobs
any-ordered test number order [] = refl
any-ordered test number order (x ∷ jobs) = rw (ordered-step test number order x (is_job number x), any-ordered test number order jobs) refl

pub count-ordered : (test : Task → Bool) (number : ℕ) (order : Order) (jobs : List Job) → count (λ (job : Job). test job.task) (ordered number order jobs) ≡ count (λ (job : Job). test job.task) jobs
count-ordered test number order [] = refl
count-ordered test number order (x ∷ jobs) = rw (ordered-step test number order x (is_job number x), count-ordered test number order jobs) refl

number-step : (order : Order) (x : Job) (b : Bool) → (if b then record x { order = order } else x).number ≡ x.number
number-step order x true = refl
number-step order x false = refl

pub numbers-ordered : (n number : ℕ) (order : Order) (jobs : List Job) → count (is_job n) (ordered number order jobs) ≡ count (is_job n) jobs
numbers-ordered n number order [] = refl
numbers-ordered n number order (x ∷ jobs) = rw (number-step order x (is_job number x), numbers-ordered n number order jobs) refl

pub some-ordered : (n number : ℕ) (order : Order) (jobs : List Job) → is_some (job_at n (ordered number order jobs)) ≡ is_some (job_at n jobs)
some-ordered n number order [] = refl
some-ordered n number order (x ∷ jobs) = step (is_job number x) (is_job n x) refl (some-ordered n number order jobs)
  where
    step : (b c : Bool) → is_job n x ≡ c → is_some (job_at n (ordered number order jobs)) ≡ is_some (job_at n jobs)
        → is_some (job_at n ((if b then record x { order = order } else x) ∷ ordered number order jobs)) ≡ is_some (job_at n (x ∷ jobs))
    step true true e h = rw e refl
    step true false e h = rw e h
    step false true e h = rw e refl
    step false false e h = rw e h

-- ---- a job that is over

none-out : (number : ℕ) (jobs : List Job) → count (is_job number) jobs ≡ 0 → without_job number jobs ≡ jobs
none-out number [] h = refl
none-out number (x ∷ jobs) h = step (is_job number x) refl (none-out number jobs)
  where
    step : (b : Bool) → is_job number x ≡ b → (count (is_job number) jobs ≡ 0 → without_job number jobs ≡ jobs) → without_job number (x ∷ jobs) ≡ x ∷ jobs
    step true e more = absurd (grind (arith, e, h))
    step false e more = let rest : count (is_job number) jobs ≡ 0 = grind (arith, e, h) in rw e (ap (λ js. x ∷ js) (more rest))

pub same-job : (x job : Job) → Some x ≡ Some job → x ≡ job
same-job x job e = cc

-- what a sum loses with it
pub tally-out : (f : Job → ℕ) (number : ℕ) (jobs : List Job) (job : Job) → job_at number jobs ≡ Some job → count (is_job number) jobs ≤ 1 → tally f (without_job number jobs) + f job ≡ tally f jobs
tally-out f number [] job at one = absurd (cc)
tally-out f number (x ∷ jobs) job at one = step (is_job number x) refl (tally-out f number jobs job)
  where
    step : (b : Bool) → is_job number x ≡ b → (job_at number jobs ≡ Some job → count (is_job number) jobs ≤ 1 → tally f (without_job number jobs) + f job ≡ tally f jobs) → tally f (without_job number (x ∷ jobs)) + f job ≡ tally f (x ∷ jobs)
    step true e more =
        let same : x ≡ job = same-job x job (rw e at at) in
        let none : count (is_job number) jobs ≡ 0 = grind (arith, e, one) in
        let left : tally f (without_job number jobs) ≡ tally f jobs = ap (tally f) (none-out number jobs none) in
        let fx : f x ≡ f job = ap f same in
        rw e (omega (arith, left, fx))
    step false e more =
        let there : job_at number jobs ≡ Some job = rw e at at in
        let few : count (is_job number) jobs ≤ 1 = grind (arith, e, one) in
        rw e (omega (arith, more there few))

-- what is written now, then
pub any-out : (test : Task → Bool) (number : ℕ) (jobs : List Job) (job : Job) → job_at number jobs ≡ Some job → count (is_job number) jobs ≤ 1
    → list_any (λ (j : Job). test j.task) jobs ≡ (list_any (λ (j : Job). test j.task) (without_job number jobs) || test job.task)
any-out test number jobs job at one =
    any-count (λ (j : Job). test j.task) jobs ∙ step (test job.task) refl ∙ ap (λ b. b || test job.task) (sym (any-count (λ (j : Job). test j.task) (without_job number jobs)))
  where
    step : (b : Bool) → test job.task ≡ b → nat_lt 0 (count (λ (j : Job). test j.task) jobs) ≡ (nat_lt 0 (count (λ (j : Job). test j.task) (without_job number jobs)) || test job.task)
    step b e = let t = tally-out (λ (j : Job). if test j.task then 1 else 0) number jobs job at one in grind (arith, t, e)

pub job-out : (n number : ℕ) (jobs : List Job) → job_at n (without_job number jobs) ≡ (if n == number then None else job_at n jobs)
job-out n number [] = grind arith
job-out n number (x ∷ jobs) = step (x.number == number) refl (x.number == n) refl (n == number) refl (job-out n number jobs)
  where
    step : (b : Bool) → (x.number == number) ≡ b → (c : Bool) → (x.number == n) ≡ c → (d : Bool) → (n == number) ≡ d → job_at n (without_job number jobs) ≡ (if n == number then None else job_at n jobs)
        → job_at n (without_job number (x ∷ jobs)) ≡ (if n == number then None else job_at n (x ∷ jobs))
    step true e c f true g h = rw (e, g) (rw g at h)
    step true e true f false g h = absurd (grind (arith, e, f, g))
    step true e false f false g h = rw (e, g, f) (rw g at h)
    step false e true f true g h = absurd (grind (arith, e, f, g))
    step false e true f false g h = rw (e, g) (rw f refl)
    step false e false f true g h = rw (e, g) (rw f (rw g at h))
    step false e false f false g h = rw (e, g) (rw f (rw g at h))
