-- No two jobs have one number, whatever is started and handed in.
use Rattle.std.proofs.Common.{◌≡◌, ℕ, ◌==◌, Bool, true, false, List, [], ◌∷◌, ◌++◌, Option, Some, None, refl, ap, ◌∙◌, subst, arith}
use Rattle.std.proofs.lemmas.Bool.{eqb-true}
use Rattle.std.specs.Prelude.{if◌then◌else◌}
use Rattle.hc_bucket.proofs.Numbers.{some_is}
use Rattle.hc_engines.specs.Engine.{Op, IoResult, Busy}
use Rattle.hc_engines.specs.small.BigHash.{BigHash, Job, Phase, Plan, Moved, moved, make_job, with_job, begun, start, start_at, our_bucket, word_at, is_busy, job_at, without_job, waits, resume, resumed, resume_job, went_on}
use Rattle.hc_engines.specs.pair.Apart.{IsSingle}
use Rattle.hc_engines.proofs.small.UnderWay.{none_is_there}

-- the job that a number leads to has it
pub number_at : (number : ℕ) (jobs : List Job) (job : Job) → job_at number jobs ≡ Some job → job.number ≡ number
number_at number [] job h = absurd cc
number_at number (x ∷ jobs) job h = cases (x.number == number) refl (number_at number jobs job)
  where
    cases : (t : Bool) → (x.number == number) ≡ t → (job_at number jobs ≡ Some job → job.number ≡ number) → job.number ≡ number
    cases true p more = subst (λ (j : Job). j.number ≡ number) (some_is _ _ (rw p at h)) (eqb-true _ _ p)
    cases false p more = more (rw p at h)

-- ---- a job goes

none_stays : (n m : ℕ) (jobs : List Job) → job_at n jobs ≡ None → job_at n (without_job m jobs) ≡ None
none_stays n m [] h = refl
none_stays n m (x ∷ jobs) h = cases (x.number == n) refl (x.number == m) refl (none_stays n m jobs)
  where
    cases : (t : Bool) → (x.number == n) ≡ t → (u : Bool) → (x.number == m) ≡ u → (job_at n jobs ≡ None → job_at n (without_job m jobs) ≡ None) → job_at n (without_job m (x ∷ jobs)) ≡ None
    cases true p u q more = absurd (grind (arith, h, p))
    cases false p true q more = rw q (rw p at h)
    cases false p false q more = rw q (rw p (more (rw p at h)))

single_without : (n m : ℕ) (jobs : List Job) → job_at n (without_job n jobs) ≡ None → job_at n (without_job n (without_job m jobs)) ≡ None
single_without n m [] h = refl
single_without n m (x ∷ jobs) h = cases (x.number == n) refl (x.number == m) refl (single_without n m jobs)
  where
    cases : (t : Bool) → (x.number == n) ≡ t → (u : Bool) → (x.number == m) ≡ u → (job_at n (without_job n jobs) ≡ None → job_at n (without_job n (without_job m jobs)) ≡ None)
        → job_at n (without_job n (without_job m (x ∷ jobs))) ≡ None
    cases true p true q more = rw q (let none : job_at n jobs ≡ None = rw p at h in ap (job_at n) (none_is_there n jobs none) ∙ none)
    cases true p false q more = rw q (rw p (none_stays n m jobs (rw p at h)))
    cases false p true q more = rw q (rw p at (rw p at h))
    cases false p false q more = rw q (rw p (rw p (more (rw p at (rw p at h)))))

-- ---- a job comes, as the last

other_behind : (n : ℕ) (jobs : List Job) (job : Job) → (job.number == n) ≡ false → job_at n (jobs ++ job ∷ []) ≡ job_at n jobs
other_behind n [] job h = rw h refl
other_behind n (x ∷ jobs) job h = cases (x.number == n) refl (other_behind n jobs job h)
  where
    cases : (t : Bool) → (x.number == n) ≡ t → job_at n (jobs ++ job ∷ []) ≡ job_at n jobs → job_at n (x ∷ (jobs ++ job ∷ [])) ≡ job_at n (x ∷ jobs)
    cases true p more = rw p refl
    cases false p more = rw p more

last_out : (n : ℕ) (jobs : List Job) (job : Job) → job_at n jobs ≡ None → (job.number == n) ≡ true → without_job n (jobs ++ job ∷ []) ≡ jobs
last_out n [] job none same = rw same refl
last_out n (x ∷ jobs) job none same = cases (x.number == n) refl (last_out n jobs job)
  where
    cases : (t : Bool) → (x.number == n) ≡ t → (job_at n jobs ≡ None → (job.number == n) ≡ true → without_job n (jobs ++ job ∷ []) ≡ jobs) → without_job n (x ∷ (jobs ++ job ∷ [])) ≡ x ∷ jobs
    cases true p more = absurd (grind (arith, none, p))
    cases false p more = rw p (ap (λ (js : List Job). x ∷ js) (more (rw p at none) same))

single_behind : (n : ℕ) (jobs : List Job) (job : Job) → (job.number == n) ≡ false → job_at n (without_job n (jobs ++ job ∷ [])) ≡ job_at n (without_job n jobs)
single_behind n [] job h = rw h (rw h refl)
single_behind n (x ∷ jobs) job h = cases (x.number == n) refl (single_behind n jobs job h)
  where
    cases : (t : Bool) → (x.number == n) ≡ t → job_at n (without_job n (jobs ++ job ∷ [])) ≡ job_at n (without_job n jobs) → job_at n (without_job n (x ∷ (jobs ++ job ∷ []))) ≡ job_at n (without_job n (x ∷ jobs))
    cases true p more = rw p (other_behind n jobs job h)
    cases false p more = rw p (rw p more)

single_with : (number bucket : ℕ) (op : Op) (phase : Option Phase) (jobs : List Job) → IsSingle jobs → IsSingle (with_job (without_job number jobs) number bucket op phase)
single_with number bucket op None jobs single n = single_without n number jobs (single n)
single_with number bucket op (Some phase) jobs single n = cases (number == n) refl
  where
    cases : (t : Bool) → (number == n) ≡ t → job_at n (without_job n (without_job number jobs ++ make_job number bucket op phase ∷ [])) ≡ None
    cases true p =
        let same : number ≡ n = eqb-true number n p in
        let none : job_at n (without_job number jobs) ≡ None = ap (λ (m : ℕ). job_at n (without_job m jobs)) same ∙ single n in
        ap (job_at n) (last_out n (without_job number jobs) (make_job number bucket op phase) none p) ∙ none
    cases false p = single_behind n (without_job number jobs) (make_job number bucket op phase) p ∙ single_without n number jobs (single n)

-- ---- the two calls

pub start_single : (s : BigHash) (number : ℕ) (op : Op) → IsSingle s.jobs → IsSingle (start s number op).state.jobs
start_single s number op single = by (our_bucket s.flash op)
  where
    by : (o : Option ℕ) → IsSingle (start_at s number op o).state.jobs
    by None = single
    by (Some bucket) = cases (is_busy bucket s.jobs)
      where
        cases : (t : Bool) → IsSingle (if t then record { state = s; next = Busy } else moved s number bucket op (begun (word_at s bucket) op)).state.jobs
        cases true = single
        cases false = single_with number bucket op (waits (begun (word_at s bucket) op)) s.jobs single

pub resume_single : (s : BigHash) (number : ℕ) (result : IoResult) (m : Moved) → IsSingle s.jobs → resume s number result ≡ Some m → IsSingle m.state.jobs
resume_single s number result m single made = by (job_at number s.jobs) made
  where
    went : (job : Job) (o : Option Plan) → resumed s job o ≡ Some m → IsSingle m.state.jobs
    went job None h = absurd cc
    went job (Some plan) h = subst (λ (x : Moved). IsSingle x.state.jobs) (some_is _ _ h) (single_with job.number job.bucket job.op (waits plan) s.jobs single)

    by : (o : Option Job) → resume_job s o result ≡ Some m → IsSingle m.state.jobs
    by None h = absurd cc
    by (Some job) h = went job (went_on s.flash.page job.op job.phase result) h
