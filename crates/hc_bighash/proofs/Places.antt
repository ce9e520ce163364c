-- The job that stands at a place.
use Rattle.std.proofs.Common.{◌≡◌, ℕ, ◌+◌, ◌==◌, Bool, true, false, List, [], ◌∷◌, Option, Some, None, refl, sym, arith, ap, ◌∙◌, subst, suc}
use Rattle.std.specs.Prelude.{option_map, slice_index_or}
use Rattle.std.specs.List.{remove}
use Rattle.hc_engines.proofs.small.Single.{number_at}
use Rattle.hc_engines.specs.small.BigHash.{Job, job_at, without_job, place_of}

record Found (number at : ℕ) (jobs : List Job) (job : Job) : Type 0 where
  there : job_at number jobs ≡ Some job
  left : without_job number jobs ≡ remove jobs at

place-tail : (o : Option ℕ) (at : ℕ) → option_map (λ n. n + 1) o ≡ Some at → (n : ℕ) × (o ≡ Some n) × (at ≡ n + 1)
place-tail None at h = absurd (cc)
place-tail (Some n) at h = (n, refl, grind (arith, h))

at_place : (number at : ℕ) (jobs : List Job) (d : Job) → place_of number jobs ≡ Some at → Found number at jobs (slice_index_or jobs at d)
at_place number at [] d h = absurd (cc)
at_place number at (x ∷ jobs) d h = cases (x.number == number) refl (λ n e. at_place number n jobs e)
  where
    cases : (t : Bool) → (x.number == number) ≡ t → ((n : ℕ) (e : Job) → place_of number jobs ≡ Some n → Found number n jobs (slice_index_or jobs n e)) → Found number at (x ∷ jobs) (slice_index_or (x ∷ jobs) at d)
    cases true p more = let here : at ≡ 0 = grind (arith, h, p) in subst (λ (n : ℕ). Found number n (x ∷ jobs) (slice_index_or (x ∷ jobs) n d)) (sym here) (record { there = rw p refl; left = rw p refl })
    cases false p more =
        let behind = place-tail (place_of number jobs) at (rw p at h) in
        let a = more behind.0 d behind.1 in
        let next : at ≡ suc behind.0 = omega (arith, behind.2) in
        subst (λ (n : ℕ). Found number n (x ∷ jobs) (slice_index_or (x ∷ jobs) n d)) (sym next) (record { there = rw p a.there; left = rw p (ap (λ (js : List Job). x ∷ js) a.left) })

option-none : (o : Option ℕ) → option_map (λ n. n + 1) o ≡ None → o ≡ None
option-none None h = refl
option-none (Some n) h = absurd (cc)

pub place_none : (number : ℕ) (jobs : List Job) → place_of number jobs ≡ None → job_at number jobs ≡ None
place_none number [] h = refl
place_none number (x ∷ jobs) h = cases (x.number == number) refl (place_none number jobs)
  where
    cases : (t : Bool) → (x.number == number) ≡ t → (place_of number jobs ≡ None → job_at number jobs ≡ None) → job_at number (x ∷ jobs) ≡ None
    cases true p more = absurd (grind (arith, h, p))
    cases false p more = rw p (more (option-none (place_of number jobs) (rw p at h)))

-- this job stands here, and has this number
pub record At (number at : ℕ) (jobs : List Job) (job : Job) : Type 0 where
  pub there : job_at number jobs ≡ Some job
  pub left : without_job job.number jobs ≡ remove jobs at

pub job_here : (number at : ℕ) (jobs : List Job) (job : Job) → place_of number jobs ≡ Some at → job ≡ slice_index_or jobs at job → At number at jobs job
job_here number at jobs job here is =
    let found = at_place number at jobs job here in
    let there : job_at number jobs ≡ Some job = found.there ∙ ap (λ (j : Job). Some j) (sym is) in
    record { there = there; left = ap (λ (n : ℕ). without_job n jobs) (number_at number jobs job there) ∙ found.left }
