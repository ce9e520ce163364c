-- Jobs by number and by bucket.
use Rattle.std.proofs.Common.{◌≡◌, ℕ, Bool, true, false, ◌==◌, List, [], ◌∷◌, None, refl, arith, ap}
use Rattle.hc_engines.specs.small.BigHash.{Job, job_at, without_job}

pub none_is_there : (number : ℕ) (jobs : List Job) → job_at number jobs ≡ None → without_job number jobs ≡ jobs
none_is_there number [] h = refl
none_is_there number (job ∷ jobs) h = cases (job.number == number) refl (none_is_there number jobs)
  where
    cases : (t : Bool) → (job.number == number) ≡ t → (job_at number jobs ≡ None → without_job number jobs ≡ jobs) → without_job number (job ∷ jobs) ≡ job ∷ jobs
    cases true p more = absurd (grind (arith, p, h))
    cases false p more = rw p (ap (λ js. job ∷ js) (more (rw p at h)))
