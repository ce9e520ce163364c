-- What is under way in an engine has its order out at the desk.
use Rattle.std.proofs.Common.{◌≡◌, ℕ, ◌+◌, ◌≤◌, ◌==◌, Bool, true, false, ◌||◌, List, [], ◌∷◌, Option, Some, None, refl, ap, sym, ◌∙◌, subst, arith}
use Rattle.std.specs.Prelude.{if◌then◌else◌, option_map}
use Rattle.std.specs.List.{list_any}
use Rattle.std.proofs.lemmas.Bool.{eqb-true, eq-eqb}
use Rattle.hc_types.specs.Places.{bucket_at}
use Rattle.hc_types.specs.Tally.{count}
use Rattle.hc_types.specs.declared.config.FlashConfig.{FlashConfig}
use Rattle.hc_engines.specs.Engine.{Order, Pages}
use Rattle.hc_engines.specs.small.BigHash as bighash
use Rattle.hc_engines.specs.small.Held.{JobsFit}
use Rattle.hc_engines.specs.large.Block as block
use Rattle.hc_history.specs.Note.{Note}
use Rattle.hc_history.specs.Pages.{bytes_at}
use Rattle.hc_engines.specs.pair.Pair.{is_busy_for}
use Rattle.hc_machine.specs.Nvm.{Nvm, Job, job_at}
use Rattle.hc_machine.specs.World.{Result, order_in}
use Rattle.hc_invariant.specs.Jobs.{JobsRun, small_job, large_work, small_order, large_order}
use Rattle.hc_invariant.specs.Good.{EnginesFit}
use Rattle.hc_theorem.proofs.runs.WritesAlone.{Runs, OfSmall, OfLarge, runs_of}
use Rattle.hc_follows.specs.Desk.{Out, Sheet, job_out}
use Rattle.hc_follows.specs.Idle.{page_of, is_busy}
use Rattle.hc_theorem.specs.clients.Matches.{JobsMatch}
use Rattle.hc_theorem.proofs.runs.WritesAlone.{small_page}

-- ---- at the desk

any_out : (test : Out → Bool) (n : ℕ) (outs : List Out) (out : Out) → job_out n outs ≡ Some out → test out ≡ true → list_any test outs ≡ true
any_out test n [] out at h = absurd cc
any_out test n (x ∷ outs) out at h = go (x.job == n) at (any_out test n outs out)
  where
    go : (t : Bool) → (if t then Some x else job_out n outs) ≡ Some out → (job_out n outs ≡ Some out → test out ≡ true → list_any test outs ≡ true) → (test x || list_any test outs) ≡ true
    go true at more = let same : x ≡ out = cc in let its : test x ≡ true = ap test same ∙ h in (rw its refl)
    go false at more = let rest = more at h in or_true (test x) (list_any test outs) rest
      where
        or_true : (a b : Bool) → b ≡ true → (a || b) ≡ true
        or_true true b h = refl
        or_true false b h = h

-- the job of that number is out, with its order
pub out_with : (outs : List Out) (sheets : List Sheet) (jobs : List Job) (rs : List Result) (pages : Pages) (n : ℕ) (job : Job) → JobsMatch outs sheets jobs rs pages → job_at n jobs ≡ Some job → (out : Out) × (job_out n outs ≡ Some out) × (out.order ≡ job.order)
out_with outs sheets jobs rs pages n job m at = go (job_out n outs) (m.orders n ∙ ap (option_map (λ (j : Job). j.order)) at)
  where
    go : (o : Option Out) → option_map (λ (out : Out). out.order) o ≡ Some job.order → (out : Out) × (o ≡ Some out) × (out.order ≡ job.order)
    go None h = absurd cc
    go (Some out) h = (out, refl, cc)

pub any_order : (outs : List Out) (sheets : List Sheet) (jobs : List Job) (rs : List Result) (pages : Pages) (n : ℕ) (job : Job) (test : Order → Bool) → JobsMatch outs sheets jobs rs pages → job_at n jobs ≡ Some job → test job.order ≡ true → list_any (λ (out : Out). test out.order) outs ≡ true
any_order outs sheets jobs rs pages n job test m at h =
    let out = out_with outs sheets jobs rs pages n job m at in
    any_out (λ (out : Out). test out.order) n outs out.0 out.1 (ap test out.2 ∙ h)

-- ---- in the engines

-- a job of either engine is out
pub record IsOut (nvm : Nvm) (n : ℕ) (order : Order) : Type 0 where
  pub job : Job
  pub at : job_at n nvm.jobs ≡ Some job
  pub order_is : job.order ≡ order

small_runs : (nvm : Nvm) (n : ℕ) (order : Order) (x : bighash.Job) → small_job nvm n ≡ Some x → Runs nvm n order → order ≡ small_order nvm.pair x
small_runs nvm n order x at (OfSmall job here none is) = let same : job ≡ x = cc in is ∙ ap (small_order nvm.pair) same
small_runs nvm n order x at (OfLarge work none there is) = absurd cc

large_runs : (nvm : Nvm) (n : ℕ) (order : Order) (work : block.Work) → large_work nvm n ≡ Some work → Runs nvm n order → order ≡ large_order nvm.pair work
large_runs nvm n order work at (OfSmall job here none is) = absurd cc
large_runs nvm n order work at (OfLarge x none there is) = let same : x ≡ work = cc in is ∙ ap (large_order nvm.pair) same

pub small_out : (nvm : Nvm) (n : ℕ) (x : bighash.Job) → JobsRun nvm → small_job nvm n ≡ Some x → IsOut nvm n (small_order nvm.pair x)
small_out nvm n x j at = go (job_at n nvm.jobs) refl
  where
    go : (o : Option Job) → job_at n nvm.jobs ≡ o → IsOut nvm n (small_order nvm.pair x)
    go None e = absurd (let none = j.small_ones n e in let clash : None ≡ Some x = sym none ∙ at in cc)
    go (Some job) e = let ordered : order_in (Some nvm) n ≡ Some job.order = rw e refl in record { job = job; at = e; order_is = small_runs nvm n job.order x at (runs_of nvm n job.order j ordered) }

pub large_out : (nvm : Nvm) (n : ℕ) (work : block.Work) → JobsRun nvm → large_work nvm n ≡ Some work → IsOut nvm n (large_order nvm.pair work)
large_out nvm n work j at = go (job_at n nvm.jobs) refl
  where
    go : (o : Option Job) → job_at n nvm.jobs ≡ o → IsOut nvm n (large_order nvm.pair work)
    go None e = absurd (let none = j.large_ones n e in let clash : None ≡ Some work = sym none ∙ at in cc)
    go (Some job) e = let ordered : order_in (Some nvm) n ≡ Some job.order = rw e refl in record { job = job; at = e; order_is = large_runs nvm n job.order work at (runs_of nvm n job.order j ordered) }

-- an operation of the large engine that passes the test
pub record WorkWith (test : block.Work → Bool) (jobs : List block.Job) : Type 0 where
  pub number : ℕ
  pub work : block.Work
  pub at : block.work_of number jobs ≡ Some work
  pub passes : test work ≡ true

counted : (n : ℕ) (jobs : List block.Job) (work : block.Work) → block.work_of n jobs ≡ Some work → 1 ≤ count (λ (job : block.Job). job.number == n) jobs
counted n [] work at = absurd cc
counted n (x ∷ jobs) work at = go (x.number == n) at (counted n jobs work)
  where
    go : (t : Bool) → (if t then Some x.work else block.work_of n jobs) ≡ Some work → (block.work_of n jobs ≡ Some work → 1 ≤ count (λ (job : block.Job). job.number == n) jobs) → 1 ≤ (if t then 1 else 0) + count (λ (job : block.Job). job.number == n) jobs
    go true at more = omega arith
    go false at more = omega (arith, more at)

pub work_with : (test : block.Work → Bool) (jobs : List block.Job) → ((n : ℕ) → count (λ (job : block.Job). job.number == n) jobs ≤ 1) → 1 ≤ count (λ (job : block.Job). test job.work) jobs → WorkWith test jobs
work_with test [] one h = absurd (omega (arith, h))
work_with test (x ∷ jobs) one h = go (test x.work) refl h (work_with test jobs (λ n. omega (arith, one n)))
  where
    own : (x.number == x.number) ≡ true
    own = eq-eqb x.number x.number refl

    later : WorkWith test jobs → WorkWith test (x ∷ jobs)
    later b = by (x.number == b.number) refl
      where
        by : (t : Bool) → (x.number == b.number) ≡ t → WorkWith test (x ∷ jobs)
        by true e = absurd (let here : ◌≡◌ {A = ℕ} (if x.number == b.number then 1 else 0) 1 = ap {B = ℕ} (λ b. if b then 1 else 0) e in omega (arith, one b.number, here, counted b.number jobs b.work b.at))
        by false e = record { number = b.number; work = b.work; at = rw e b.at; passes = b.passes }

    go : (t : Bool) → test x.work ≡ t → 1 ≤ (if t then 1 else 0) + count (λ (job : block.Job). test job.work) jobs → (1 ≤ count (λ (job : block.Job). test job.work) jobs → WorkWith test jobs) → WorkWith test (x ∷ jobs)
    go true e h more = record { number = x.number; work = x.work; at = (rw own refl); passes = e }
    go false e h more = later (more (omega (arith, h)))

record OnBucket (bucket : ℕ) (jobs : List bighash.Job) : Type 0 where
  number : ℕ
  job : bighash.Job
  at : bighash.job_at number jobs ≡ Some job
  own : job.bucket ≡ bucket

busy_job : (flash : FlashConfig) (words : ℕ → Option ℕ) (pages : Pages) (bucket : ℕ) (jobs : List bighash.Job) → JobsFit flash words pages jobs → bighash.is_busy bucket jobs ≡ true → OnBucket bucket jobs
busy_job flash words pages bucket [] fit h = absurd cc
busy_job flash words pages bucket (x ∷ jobs) fit h = go (x.bucket == bucket) refl h (λ r. busy_job flash words pages bucket jobs fit.3 r)
  where
    behind : OnBucket bucket jobs → OnBucket bucket (x ∷ jobs)
    behind b = by (x.number == b.number) refl
      where
        by : (t : Bool) → (x.number == b.number) ≡ t → OnBucket bucket (x ∷ jobs)
        by true e = absurd (let same : x.number ≡ b.number = eqb-true x.number b.number e in let none : bighash.job_at b.number jobs ≡ None = subst (λ (k : ℕ). bighash.job_at k jobs ≡ None) same fit.2 in let clash : None ≡ Some b.job = sym none ∙ b.at in cc)
        by false e = record { number = b.number; job = b.job; at = rw e b.at; own = b.own }

    go : (t : Bool) → (x.bucket == bucket) ≡ t → (t || bighash.is_busy bucket jobs) ≡ true → (bighash.is_busy bucket jobs ≡ true → OnBucket bucket jobs) → OnBucket bucket (x ∷ jobs)
    go true e h more = let own : (x.number == x.number) ≡ true = eq-eqb x.number x.number refl in record { number = x.number; job = x; at = rw own refl; own = eqb-true x.bucket bucket e }
    go false e h more = behind (more h)

-- a key's bucket that is busy in the engine is busy at the desk
pub busy_out : (flash : FlashConfig) (older : List Note) (nvm : Nvm) (outs : List Out) (sheets : List Sheet) (rs : List Result) (pages : Pages) (key : List ℕ) → EnginesFit flash older nvm → JobsRun nvm → JobsMatch outs sheets nvm.jobs rs pages
    → is_busy_for nvm.pair key ≡ true → is_busy flash outs key ≡ true
busy_out flash older nvm outs sheets rs pages key g j m h =
    let b = busy_job nvm.pair.small.flash (bighash.word_at nvm.pair.small) (bytes_at older) (bucket_at nvm.pair.small.flash key) nvm.pair.small.jobs g.small_fits.jobs_fit h in
    let out = small_out nvm b.number b.job j b.at in
    let page : page_of out.job.order ≡ bucket_at flash key = ap page_of out.order_is ∙ small_page nvm.pair b.job ∙ b.own ∙ ap (λ (f : FlashConfig). bucket_at f key) g.same in
    any_order outs sheets nvm.jobs rs pages b.number out.job (λ (order : Order). page_of order == bucket_at flash key) m out.at (eq-eqb (page_of out.job.order) (bucket_at flash key) page)
