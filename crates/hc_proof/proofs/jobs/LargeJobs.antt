-- The jobs against the engines, where the large engine moved on under one number.
use Rattle.std.proofs.Common.{◌≡◌, ℕ, ◌+◌, ◌<◌, ◌≤◌, ◌==◌, Bool, true, false, not, ◌||◌, List, [], ◌∷◌, ◌++◌, Option, Some, None, refl, sym, ap, arith, ◌∙◌, subst}
use Rattle.std.proofs.lemmas.Bool.{eqb-true}
use Rattle.std.proofs.lemmas.List.Folds.{list_any-append}
use Rattle.std.specs.Prelude.{if◌then◌else◌, is_some}
use Rattle.std.specs.List.{list_any}
use Rattle.hc_types.specs.Tally.{count}
use Rattle.hc_types.proofs.Tallies.{tally-push}
use Rattle.hc_engines.specs.Engine.{Order, Read, Write}
use Rattle.hc_engines.specs.small.BigHash as bighash
use Rattle.hc_engines.specs.large.Region.{region_at, page_no}
use Rattle.hc_engines.specs.large.Block.{Block, Reading, Work, Writing, Getting, work_of}
use Rattle.hc_machine.specs.Nvm.{Nvm, Job, Task, Putting, Deleting, Filling, Flushing, is_job, job_at, without_job, ordered, puts, is_written_now}
use Rattle.hc_invariant.specs.Jobs.{RunsAs, AllRun, JobsRun, small_job, large_work}
use Rattle.hc_proof.specs.books.RegionBooks.{OthersStay, but, each}
use Rattle.hc_proof.proofs.frames.JobLists.{job_number, gone_at, gone_fewer, ordered_at, ordered_many, ordered_puts, come_at, come_none, none_has, run_at}

-- the large engine moved on, and the jobs
abbrev pub with_large : Block → List Job → ℕ → Nvm → Nvm
with_large large jobs made nvm = record nvm { pair = record nvm.pair { large = large }; jobs = jobs; made = made }

-- what the steps of regions leave of the jobs
pub record JobsGo (nvm new : Nvm) : Type 0 where
  pub runs : JobsRun new
  -- the keys that are being written are the same
  pub writing : (key : List ℕ) → is_written_now new key ≡ is_written_now nvm key
  pub one_writer : (key : List ℕ) → count (λ (job : Job). puts key job.task) nvm.jobs ≤ 1 → count (λ (job : Job). puts key job.task) new.jobs ≤ 1

-- ---- one job

-- the region of each write has as many pages written
abbrev pub WrittenStays : Nvm → Block → Option Work → Type 0
WrittenStays nvm large work = (r : ℕ) (bytes : List ℕ) → work ≡ Some (Writing r bytes) → (region_at r large.regions).written ≡ (region_at r nvm.pair.large.regions).written

runs_still : (nvm : Nvm) (large : Block) (jobs : List Job) (made : ℕ) (task : Task) (order : Order) (job : Option bighash.Job) (work : Option Work) → WrittenStays nvm large work → RunsAs nvm task order job work → RunsAs (with_large large jobs made nvm) task order job work
runs_still nvm large jobs made (Putting key) order (Some job) None w h = h
runs_still nvm large jobs made (Deleting key) order (Some job) None w h = h
runs_still nvm large jobs made Filling order (Some job) None w h = h
runs_still nvm large jobs made Filling order None (Some (Getting reading)) w h = h
runs_still nvm large jobs made Flushing order None (Some (Writing r bytes)) w h = h ∙ ap (λ n. Write (page_no nvm.pair.small.flash r n) bytes) (sym (w r bytes refl))
runs_still nvm large jobs made task order job work w h = absurd h

-- a job of the others
other_runs : (others : ℕ → Bool) (nvm : Nvm) (large : Block) (jobs : List Job) (made : ℕ) (job : Job) → OthersStay others nvm.pair.large large → others job.number ≡ true
    → RunsAs nvm job.task job.order (small_job nvm job.number) (large_work nvm job.number)
    → RunsAs (with_large large jobs made nvm) job.task job.order (small_job nvm job.number) (work_of job.number large.jobs)
other_runs others nvm large jobs made job o t h =
    subst (λ (work : Option Work). RunsAs (with_large large jobs made nvm) job.task job.order (small_job nvm job.number) work) (sym (o.works job.number t))
    (runs_still nvm large jobs made job.task job.order (small_job nvm job.number) (large_work nvm job.number) (λ r bytes e. o.written job.number r bytes t e) h)

-- ---- a job of the large engine

-- the job with this number is this one, and its operation is the large engine's
pub record LargeJob (nvm : Nvm) (number : ℕ) (job : Job) (work : Work) : Type 0 where
  pub number_is : job.number ≡ number
  pub small : small_job nvm number ≡ None
  pub there : large_work nvm number ≡ Some work

-- it puts no small entry
puts_none : (nvm : Nvm) (task : Task) (order : Order) (work : Work) (key : List ℕ) → RunsAs nvm task order None (Some work) → puts key task ≡ false
puts_none nvm (Putting k) order work key h = absurd h
puts_none nvm (Deleting k) order work key h = absurd h
puts_none nvm Filling order work key h = refl
puts_none nvm Flushing order work key h = refl

-- one that writes a region's page
pub record Writes (nvm : Nvm) (number : ℕ) (job : Job) : Type 0 where
  pub region : ℕ
  pub bytes : List ℕ
  pub large : LargeJob nvm number job (Writing region bytes)
  pub order : job.order ≡ Write (page_no nvm.pair.small.flash region (region_at region nvm.pair.large.regions).written) bytes

pub writes_of : (nvm : Nvm) (number : ℕ) (job : Job) → JobsRun nvm → job_at number nvm.jobs ≡ Some job → job.task ≡ Flushing → Writes nvm number job
writes_of nvm number job runs e f =
    go (small_job nvm number) refl (large_work nvm number) refl (rw (← job_number number nvm.jobs job e) (rw f at (run_at nvm number nvm.jobs job runs.run e)))
  where
    go : (j : Option bighash.Job) → small_job nvm number ≡ j → (work : Option Work) → large_work nvm number ≡ work → RunsAs nvm Flushing job.order j work → Writes nvm number job
    go None s (Some (Writing r bytes)) w h = record { region = r; bytes = bytes; large = record { number_is = job_number number nvm.jobs job e; small = s; there = w }; order = h }
    go None s None w h = absurd h
    go None s (Some (Getting reading)) w h = absurd h
    go (Some j) s work w h = absurd h

-- one that reads a page for a fill, where no operation of the small engine has its number
pub record Reads (nvm : Nvm) (number : ℕ) (job : Job) : Type 0 where
  pub reading : Reading
  pub large : LargeJob nvm number job (Getting reading)
  pub order : job.order ≡ Read (page_no nvm.pair.small.flash reading.place.region reading.next)

pub reads_of : (nvm : Nvm) (number : ℕ) (job : Job) → JobsRun nvm → job_at number nvm.jobs ≡ Some job → job.task ≡ Filling → small_job nvm number ≡ None → Reads nvm number job
reads_of nvm number job runs e f s =
    go (small_job nvm number) refl (large_work nvm number) refl (rw (← job_number number nvm.jobs job e) (rw f at (run_at nvm number nvm.jobs job runs.run e)))
  where
    go : (j : Option bighash.Job) → small_job nvm number ≡ j → (work : Option Work) → large_work nvm number ≡ work → RunsAs nvm Filling job.order j work → Reads nvm number job
    go None s (Some (Getting reading)) w h = record { reading = reading; large = record { number_is = job_number number nvm.jobs job e; small = s; there = w }; order = h }
    go None s None w h = absurd h
    go None s (Some (Writing r bytes)) w h = absurd h
    go (Some j) t work w h = absurd (cc)

-- ---- all stay

module _ (nvm : Nvm) (large : Block) (o : OthersStay each nvm.pair.large large) where
  all_stay : (jobs : List Job) → AllRun nvm jobs → AllRun (with_large large nvm.jobs nvm.made nvm) jobs
  all_stay [] run = tt
  all_stay (job ∷ jobs) run = (other_runs each nvm large nvm.jobs nvm.made job o refl run.0, all_stay jobs run.1)

  pub jobs_stay : JobsRun nvm → JobsGo nvm (with_large large nvm.jobs nvm.made nvm)
  jobs_stay runs = record {
    runs = record { run = all_stay nvm.jobs runs.run; one = runs.one; fresh = runs.fresh; small_ones = runs.small_ones; large_ones = λ n e. o.works n refl ∙ runs.large_ones n e };
    writing = λ key. refl;
    one_writer = λ key h. h;
  }

-- ---- one is over

pub but_true : (number n : ℕ) → (n == number) ≡ false → but number n ≡ true
but_true number n e = rw e refl

module _ (nvm : Nvm) (number : ℕ) (job : Job) (work : Work) (w : LargeJob nvm number job work) (large : Block) (o : OthersStay (but number) nvm.pair.large large) where
  -- a job with that number
  own_run : (x : Job) → (x.number == number) ≡ true → RunsAs nvm x.task x.order (small_job nvm x.number) (large_work nvm x.number) → RunsAs nvm x.task x.order None (Some work)
  own_run x t h = let same : x.number ≡ number = eqb-true x.number number t in rw (same, w.small, w.there) at h

  module _ (over : work_of number large.jobs ≡ None) where
    all_over : (made : ℕ) (jobs : List Job) → AllRun nvm jobs → AllRun (with_large large (without_job number nvm.jobs) made nvm) (without_job number jobs)
    all_over made [] run = tt
    all_over made (x ∷ jobs) run = go (x.number == number) refl (all_over made jobs run.1)
      where
        go : (t : Bool) → (x.number == number) ≡ t → AllRun (with_large large (without_job number nvm.jobs) made nvm) (without_job number jobs)
            → AllRun (with_large large (without_job number nvm.jobs) made nvm) (if not t then x ∷ without_job number jobs else without_job number jobs)
        go true t more = more
        go false t more = (other_runs (but number) nvm large (without_job number nvm.jobs) made x o (but_true number x.number t) run.0, more)

    over_puts : (key : List ℕ) (jobs : List Job) → AllRun nvm jobs → list_any (λ (x : Job). puts key x.task) (without_job number jobs) ≡ list_any (λ (x : Job). puts key x.task) jobs
    over_puts key [] run = refl
    over_puts key (x ∷ jobs) run = go (x.number == number) refl (over_puts key jobs run.1)
      where
        go : (t : Bool) → (x.number == number) ≡ t → list_any (λ (x : Job). puts key x.task) (without_job number jobs) ≡ list_any (λ (x : Job). puts key x.task) jobs
            → list_any (λ (x : Job). puts key x.task) (if not t then x ∷ without_job number jobs else without_job number jobs) ≡ (puts key x.task || list_any (λ (x : Job). puts key x.task) jobs)
        go true t more = let f = puts_none nvm x.task x.order work key (own_run x t run.0) in rw f more
        go false t more = ap (λ b. puts key x.task || b) more

    small_over : (n : ℕ) (t : Bool) → (n == number) ≡ t → JobsRun nvm → (if t then None else job_at n nvm.jobs) ≡ None → small_job nvm n ≡ None
    small_over n true t runs e = let same : n ≡ number = eqb-true n number t in rw same w.small
    small_over n false t runs e = runs.small_ones n e

    large_over : (n : ℕ) (t : Bool) → (n == number) ≡ t → JobsRun nvm → (if t then None else job_at n nvm.jobs) ≡ None → work_of n large.jobs ≡ None
    large_over n true t runs e = let same : n ≡ number = eqb-true n number t in rw same over
    large_over n false t runs e = o.works n (but_true number n t) ∙ runs.large_ones n e

    none_over : (n : ℕ) (t : Bool) → job_at n nvm.jobs ≡ None → (if t then None else job_at n nvm.jobs) ≡ None
    none_over n true e = refl
    none_over n false e = e

    pub jobs_over : JobsRun nvm → JobsGo nvm (with_large large (without_job number nvm.jobs) nvm.made nvm)
    jobs_over runs = record {
      runs = record {
        run = all_over nvm.made nvm.jobs runs.run;
        one = λ n. omega (arith, runs.one n, gone_fewer (is_job n) number nvm.jobs);
        fresh = λ n l. gone_at number n nvm.jobs ∙ none_over n (n == number) (runs.fresh n l);
        small_ones = λ n e. small_over n (n == number) refl runs (sym (gone_at number n nvm.jobs) ∙ e);
        large_ones = λ n e. large_over n (n == number) refl runs (sym (gone_at number n nvm.jobs) ∙ e);
      };
      writing = λ key. over_puts key nvm.jobs runs.run;
      one_writer = λ key h. omega (arith, h, gone_fewer (λ (x : Job). puts key x.task) number nvm.jobs);
    }

  -- ---- one goes on, with the next page

  module _ (order : Order) (at : job_at number nvm.jobs ≡ Some job) (next : Work) (there : work_of number large.jobs ≡ Some next)
      (own : (task : Task) (was : Order) → RunsAs nvm task was None (Some work) → RunsAs (with_large large (ordered number order nvm.jobs) nvm.made nvm) task order None (Some next)) where
    all_on : (jobs : List Job) → AllRun nvm jobs → AllRun (with_large large (ordered number order nvm.jobs) nvm.made nvm) (ordered number order jobs)
    all_on [] run = tt
    all_on (x ∷ jobs) run = go (x.number == number) refl (all_on jobs run.1)
      where
        go : (t : Bool) → (x.number == number) ≡ t → AllRun (with_large large (ordered number order nvm.jobs) nvm.made nvm) (ordered number order jobs)
            → AllRun (with_large large (ordered number order nvm.jobs) nvm.made nvm) ((if t then record x { order = order } else x) ∷ ordered number order jobs)
        go true t more = let same : x.number ≡ number = eqb-true x.number number t in (rw (same, w.small, there) (own x.task x.order (own_run x t run.0)), more)
        go false t more = (other_runs (but number) nvm large (ordered number order nvm.jobs) nvm.made x o (but_true number x.number t) run.0, more)

    none_before : (o n : Option Job) → is_some n ≡ is_some o → n ≡ None → o ≡ None
    none_before None n s e = refl
    none_before (Some x) None s e = absurd (cc)
    none_before (Some x) (Some y) s e = absurd (cc)

    large_on : (n : ℕ) (t : Bool) → (n == number) ≡ t → JobsRun nvm → job_at n nvm.jobs ≡ None → work_of n large.jobs ≡ None
    large_on n true t runs e = let same : n ≡ number = eqb-true n number t in absurd (let none : job_at number nvm.jobs ≡ None = (rw same at e) in cc)
    large_on n false t runs e = o.works n (but_true number n t) ∙ runs.large_ones n e

    pub jobs_on : JobsRun nvm → JobsGo nvm (with_large large (ordered number order nvm.jobs) nvm.made nvm)
    jobs_on runs = record {
      runs = record {
        run = all_on nvm.jobs runs.run;
        one = λ n. omega (arith, runs.one n, ordered_many (λ (x : Job). if is_job n x then 1 else 0) (λ x order. refl) number order nvm.jobs);
        fresh = λ n l. none_before (job_at n (ordered number order nvm.jobs)) (job_at n nvm.jobs) (sym (ordered_at number n order nvm.jobs)) (runs.fresh n l);
        small_ones = λ n e. runs.small_ones n (none_before (job_at n nvm.jobs) (job_at n (ordered number order nvm.jobs)) (ordered_at number n order nvm.jobs) e);
        large_ones = λ n e. large_on n (n == number) refl runs (none_before (job_at n nvm.jobs) (job_at n (ordered number order nvm.jobs)) (ordered_at number n order nvm.jobs) e);
      };
      writing = λ key. ordered_puts key number order nvm.jobs;
      one_writer = λ key h. omega (arith, h, ordered_many (λ (x : Job). if puts key x.task then 1 else 0) (λ x order. refl) number order nvm.jobs);
    }

-- a write goes on with a write, a read with a read
pub writes_on : (nvm : Nvm) (large : Block) (jobs : List Job) (made r next : ℕ) (bytes more : List ℕ) (task : Task) (was : Order) → RunsAs nvm task was None (Some (Writing r bytes))
    → RunsAs (with_large large jobs made nvm) task (Write (page_no nvm.pair.small.flash next (region_at next large.regions).written) more) None (Some (Writing next more))
writes_on nvm large jobs made r next bytes more (Putting key) was h = absurd h
writes_on nvm large jobs made r next bytes more (Deleting key) was h = absurd h
writes_on nvm large jobs made r next bytes more Filling was h = absurd h
writes_on nvm large jobs made r next bytes more Flushing was h = refl

pub reads_on : (nvm : Nvm) (large : Block) (jobs : List Job) (made : ℕ) (reading next : Reading) (task : Task) (was : Order) → RunsAs nvm task was None (Some (Getting reading))
    → RunsAs (with_large large jobs made nvm) task (Read (page_no nvm.pair.small.flash next.place.region next.next)) None (Some (Getting next))
reads_on nvm large jobs made reading next (Putting key) was h = absurd h
reads_on nvm large jobs made reading next (Deleting key) was h = absurd h
reads_on nvm large jobs made reading next Filling was h = refl
reads_on nvm large jobs made reading next Flushing was h = absurd h

-- ---- one comes

module _ (nvm : Nvm) (large : Block) (o : OthersStay (but (nvm.made + 1)) nvm.pair.large large) (task : Task) (order : Order) (work : Work) (puts_no : (key : List ℕ) → puts key task ≡ false) (next : work_of (nvm.made + 1) large.jobs ≡ Some work)
    (own : RunsAs (with_large large (nvm.jobs ++ record { number = nvm.made + 1; task = task; order = order } ∷ []) (nvm.made + 1) nvm) task order None (Some work)) where
  all_come : (jobs : List Job) → small_job nvm (nvm.made + 1) ≡ None → job_at (nvm.made + 1) jobs ≡ None → AllRun nvm jobs
      → AllRun (with_large large (nvm.jobs ++ record { number = nvm.made + 1; task = task; order = order } ∷ []) (nvm.made + 1) nvm) (jobs ++ record { number = nvm.made + 1; task = task; order = order } ∷ [])
  all_come [] s e run = (rw (s, next) own, tt)
  all_come (x ∷ jobs) s e run = go (x.number == (nvm.made + 1)) refl e (λ f. all_come jobs s f run.1)
    where
      go : (t : Bool) → (x.number == (nvm.made + 1)) ≡ t → (if t then Some x else job_at (nvm.made + 1) jobs) ≡ None
          → (job_at (nvm.made + 1) jobs ≡ None → AllRun (with_large large (nvm.jobs ++ record { number = nvm.made + 1; task = task; order = order } ∷ []) (nvm.made + 1) nvm) (jobs ++ record { number = nvm.made + 1; task = task; order = order } ∷ []))
          → AllRun (with_large large (nvm.jobs ++ record { number = nvm.made + 1; task = task; order = order } ∷ []) (nvm.made + 1) nvm) (x ∷ (jobs ++ record { number = nvm.made + 1; task = task; order = order } ∷ []))
      go true t e more = absurd (cc)
      go false t e more = (other_runs (but (nvm.made + 1)) nvm large (nvm.jobs ++ record { number = nvm.made + 1; task = task; order = order } ∷ []) (nvm.made + 1) x o (but_true (nvm.made + 1) x.number t) run.0, more e)

  one_come : (n : ℕ) → JobsRun nvm → count (is_job n) (nvm.jobs ++ record { number = nvm.made + 1; task = task; order = order } ∷ []) ≤ 1
  one_come n runs = go ((nvm.made + 1) == n) refl (tally-push (λ (x : Job). if is_job n x then 1 else 0) nvm.jobs (record { number = nvm.made + 1; task = task; order = order }))
    where
      go : (t : Bool) → ((nvm.made + 1) == n) ≡ t → count (is_job n) (nvm.jobs ++ record { number = nvm.made + 1; task = task; order = order } ∷ []) ≡ count (is_job n) nvm.jobs + (if t then 1 else 0)
          → count (is_job n) (nvm.jobs ++ record { number = nvm.made + 1; task = task; order = order } ∷ []) ≤ 1
      go true t h = let same : nvm.made + 1 ≡ n = eqb-true (nvm.made + 1) n t in let none = none_has n nvm.jobs (runs.fresh n (omega arith)) in omega (arith, h, none)
      go false t h = omega (arith, h, runs.one n)

  not_come : (n : ℕ) → nvm.made + 1 < n → ((nvm.made + 1) == n) ≡ false
  not_come n l = go ((nvm.made + 1) == n) refl
    where
      go : (t : Bool) → ((nvm.made + 1) == n) ≡ t → ((nvm.made + 1) == n) ≡ false
      go true t = let same : nvm.made + 1 ≡ n = eqb-true (nvm.made + 1) n t in absurd (omega arith)
      go false t = t

  turned : (n : ℕ) → ((nvm.made + 1) == n) ≡ false → (n == (nvm.made + 1)) ≡ false
  turned n e = grind (arith, e)

  come_puts : (key : List ℕ) (b : Bool) → (b || (puts key task || false)) ≡ b
  come_puts key true = refl
  come_puts key false = rw (puts_no key) refl

  pub jobs_come : JobsRun nvm → JobsGo nvm (with_large large (nvm.jobs ++ record { number = nvm.made + 1; task = task; order = order } ∷ []) (nvm.made + 1) nvm)
  jobs_come runs = record {
    runs = record {
      run = all_come nvm.jobs (runs.small_ones (nvm.made + 1) (runs.fresh (nvm.made + 1) (omega arith))) (runs.fresh (nvm.made + 1) (omega arith)) runs.run;
      one = λ n. one_come n runs;
      fresh = λ n l. come_none n (record { number = nvm.made + 1; task = task; order = order }) nvm.jobs (runs.fresh n (omega arith)) (not_come n l);
      small_ones = λ n e. runs.small_ones n (come_at n (record { number = nvm.made + 1; task = task; order = order }) nvm.jobs e).0;
      large_ones = λ n e. let both = come_at n (record { number = nvm.made + 1; task = task; order = order }) nvm.jobs e in o.works n (but_true (nvm.made + 1) n (turned n both.1)) ∙ runs.large_ones n both.0;
    };
    writing = λ key. list_any-append (λ (x : Job). puts key x.task) nvm.jobs (record { number = nvm.made + 1; task = task; order = order } ∷ []) ∙ come_puts key (list_any (λ (x : Job). puts key x.task) nvm.jobs);
    one_writer = λ key h. more key h (tally-push (λ (x : Job). if puts key x.task then 1 else 0) nvm.jobs (record { number = nvm.made + 1; task = task; order = order }));
  }
    where
      more : (key : List ℕ) → count (λ (x : Job). puts key x.task) nvm.jobs ≤ 1
          → count (λ (x : Job). puts key x.task) (nvm.jobs ++ record { number = nvm.made + 1; task = task; order = order } ∷ []) ≡ count (λ (x : Job). puts key x.task) nvm.jobs + (if puts key task then 1 else 0)
          → count (λ (x : Job). puts key x.task) (nvm.jobs ++ record { number = nvm.made + 1; task = task; order = order } ∷ []) ≤ 1
      more key h e = omega (arith, h, rw (puts_no key) at e)
