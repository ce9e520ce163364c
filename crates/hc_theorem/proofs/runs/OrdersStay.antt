-- The orders of jobs, after a change of the jobs.
use Rattle.std.proofs.Common.{◌≡◌, ℕ, ◌==◌, Bool, true, false, List, [], ◌∷◌, ◌++◌, Option, Some, None, refl, ap, sym, ◌∙◌}
use Rattle.std.specs.Prelude.{if◌then◌else◌, option_map}
use Rattle.std.proofs.lemmas.Bool.{eqb-true, eq-eqb}
use Rattle.hc_engines.specs.Engine.{Order}
use Rattle.hc_machine.specs.Nvm.{Nvm, Job, is_job, job_at, without_job, ordered}
use Rattle.hc_machine.specs.World.{order_in}
use Rattle.hc_machine.specs.Quiet.{jobs_in}
use Rattle.hc_theorem.specs.runs.NoIo.{KeepsOrders}

abbrev pub order_at : List Job → ℕ → Option Order
order_at jobs n = option_map (λ (job : Job). job.order) (job_at n jobs)

pub order-is : (nvm : Option Nvm) (n : ℕ) → order_in nvm n ≡ order_at (jobs_in nvm) n
order-is None n = refl
order-is (Some nvm) n = go (job_at n nvm.jobs) refl
  where
    go : (o : Option Job) → job_at n nvm.jobs ≡ o → order_in (Some nvm) n ≡ option_map (λ (job : Job). job.order) (job_at n nvm.jobs)
    go None e = rw e refl
    go (Some job) e = rw e refl

pub same_orders : (old new : Option Nvm) → jobs_in new ≡ jobs_in old → KeepsOrders old new
same_orders old new e n order h = order-is new n ∙ ap (λ jobs. order_at jobs n) e ∙ sym (order-is old n) ∙ h

-- a job comes
pub pushed_order : (n : ℕ) (order : Order) (job : Job) (jobs : List Job) → order_at jobs n ≡ Some order → order_at (jobs ++ job ∷ []) n ≡ Some order
pushed_order n order job [] h = absurd cc
pushed_order n order job (x ∷ jobs) h = go (is_job n x) h (pushed_order n order job jobs)
  where
    go : (t : Bool) → option_map (λ (j : Job). j.order) (if t then Some x else job_at n jobs) ≡ Some order → (order_at jobs n ≡ Some order → order_at (jobs ++ job ∷ []) n ≡ Some order)
        → option_map (λ (j : Job). j.order) (if t then Some x else job_at n (jobs ++ job ∷ [])) ≡ Some order
    go true h more = h
    go false h more = more h

-- a job goes on with another order: the others have theirs
pub ordered_other : (number n : ℕ) (order : Order) (jobs : List Job) → (n == number) ≡ false → order_at (ordered number order jobs) n ≡ order_at jobs n
ordered_other number n order [] o = refl
ordered_other number n order (x ∷ jobs) o = go (is_job number x) refl (is_job n x) refl (ordered_other number n order jobs o)
  where
    go : (t : Bool) → is_job number x ≡ t → (u : Bool) → is_job n x ≡ u → order_at (ordered number order jobs) n ≡ order_at jobs n → order_at (ordered number order (x ∷ jobs)) n ≡ order_at (x ∷ jobs) n
    go true t true u h = let same : n ≡ number = sym (eqb-true x.number n u) ∙ eqb-true x.number number t in let e : (n == number) ≡ true = eq-eqb n number same in absurd (cc (e, o))
    go true t false u h = rw (t, u) h
    go false t true u h = rw (t, u) refl
    go false t false u h = rw (t, u) h

-- a job goes: the others have theirs
pub without_other : (number n : ℕ) (jobs : List Job) → (n == number) ≡ false → order_at (without_job number jobs) n ≡ order_at jobs n
without_other number n [] o = refl
without_other number n (x ∷ jobs) o = go (is_job number x) refl (is_job n x) refl (without_other number n jobs o)
  where
    go : (t : Bool) → is_job number x ≡ t → (u : Bool) → is_job n x ≡ u → order_at (without_job number jobs) n ≡ order_at jobs n → order_at (without_job number (x ∷ jobs)) n ≡ order_at (x ∷ jobs) n
    go true t true u h = let same : n ≡ number = sym (eqb-true x.number n u) ∙ eqb-true x.number number t in let e : (n == number) ≡ true = eq-eqb n number same in absurd (cc (e, o))
    go true t false u h = rw (t, u) h
    go false t true u h = rw (t, u) refl
    go false t false u h = rw (t, u) h
