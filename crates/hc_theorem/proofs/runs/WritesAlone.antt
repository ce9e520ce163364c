-- No other order is about the page that one writes.
use Rattle.std.proofs.Common.{◌≡◌, ◌≢◌, ℕ, ◌%◌, ◌<◌, ◌≤◌, ◌==◌, Bool, true, false, ◌||◌, List, [], ◌∷◌, Option, Some, None, refl, ap, sym, ◌∙◌, subst, arith}
use Rattle.std.specs.Prelude.{if◌then◌else◌, option_map}
use Rattle.std.proofs.lemmas.Bool.{eqb-true, eq-eqb}
use Rattle.hc_types.specs.Places.{kept_of}
use Rattle.hc_types.specs.declared.config.FlashConfig.{FlashConfig}
use Rattle.hc_bucket.proofs.Numbers.{some_is}
use Rattle.hc_engines.specs.Engine.{Order, Pages}
use Rattle.hc_engines.specs.small.BigHash as bighash
use Rattle.hc_engines.specs.small.BigHash.{is_busy, key_of, word_at}
use Rattle.hc_engines.specs.small.Held as small
use Rattle.hc_engines.specs.small.Held.{StateFits}
use Rattle.hc_engines.proofs.small.Resumed.{job_out}
use Rattle.hc_engines.specs.large.Region.{region_at, page_no}
use Rattle.hc_engines.specs.large.Block as block
use Rattle.hc_engines.specs.large.Block.{Block, Reading, Writing, Getting}
use Rattle.hc_engines.specs.large.Sound.{Sound}
use Rattle.hc_engines.specs.large.Fits.{Fits}
use Rattle.hc_engines.proofs.large.Fitting.{page_apart}
use Rattle.hc_engines.proofs.large.Flushes.{written_ending}
use Rattle.hc_engines.proofs.large.Jobs.{work_holds}
use Rattle.hc_engines.proofs.large.OrdersOut.{one_writer}
use Rattle.hc_history.specs.Note.{Note}
use Rattle.hc_history.specs.Pages.{bytes_at}
use Rattle.hc_engines.specs.pair.Pair.{Pair}
use Rattle.hc_machine.specs.Nvm.{Nvm, Task, Putting, Deleting, Filling, Flushing, Job, is_job, job_at}
use Rattle.hc_machine.specs.World.{order_in}
use Rattle.hc_invariant.specs.Jobs.{RunsAs, AllRun, JobsRun, small_job, large_work, small_order, large_order}
use Rattle.hc_invariant.specs.Good.{EnginesFit}
use Rattle.hc_follows.specs.Idle.{page_of}
use Rattle.hc_theorem.specs.runs.Alone.{IsWrite, OrdersAlone}
use Rattle.hc_theorem.proofs.runs.OrdersStay.{order_at, order-is}

-- ---- a job's order is that of one engine's operation

pub data Runs (nvm : Nvm) (n : ℕ) (order : Order) : Type 0 where
  OfSmall : (job : bighash.Job) → small_job nvm n ≡ Some job → large_work nvm n ≡ None → order ≡ small_order nvm.pair job → Runs nvm n order
  OfLarge : (work : block.Work) → small_job nvm n ≡ None → large_work nvm n ≡ Some work → order ≡ large_order nvm.pair work → Runs nvm n order

runs_as : (nvm : Nvm) (n : ℕ) (task : Task) (order : Order) (job : Option bighash.Job) (work : Option block.Work) → small_job nvm n ≡ job → large_work nvm n ≡ work → RunsAs nvm task order job work → Runs nvm n order
runs_as nvm n (Putting key) order (Some job) None e f h = OfSmall job e f h.1
runs_as nvm n (Deleting key) order (Some job) None e f h = OfSmall job e f h.2
runs_as nvm n Filling order (Some job) None e f h = OfSmall job e f h.1
runs_as nvm n Filling order None (Some (Getting reading)) e f h = OfLarge (Getting reading) e f h
runs_as nvm n Flushing order None (Some (Writing r bytes)) e f h = OfLarge (Writing r bytes) e f h
runs_as nvm n (Putting key) order None work e f h = absurd h
runs_as nvm n (Putting key) order (Some job) (Some work) e f h = absurd h
runs_as nvm n (Deleting key) order None work e f h = absurd h
runs_as nvm n (Deleting key) order (Some job) (Some work) e f h = absurd h
runs_as nvm n Filling order (Some job) (Some work) e f h = absurd h
runs_as nvm n Filling order None None e f h = absurd h
runs_as nvm n Filling order None (Some (Writing r bytes)) e f h = absurd h
runs_as nvm n Flushing order (Some job) work e f h = absurd h
runs_as nvm n Flushing order None None e f h = absurd h
runs_as nvm n Flushing order None (Some (Getting reading)) e f h = absurd h

found_runs : (nvm : Nvm) (n : ℕ) (order : Order) (jobs : List Job) → AllRun nvm jobs → order_at jobs n ≡ Some order → Runs nvm n order
found_runs nvm n order [] all h = absurd cc
found_runs nvm n order (x ∷ jobs) all h = go (is_job n x) refl h (found_runs nvm n order jobs all.1)
  where
    go : (t : Bool) → is_job n x ≡ t → option_map (λ (j : Job). j.order) (if t then Some x else job_at n jobs) ≡ Some order → (order_at jobs n ≡ Some order → Runs nvm n order) → Runs nvm n order
    go true t h more =
        let same : x.number ≡ n = eqb-true x.number n t in
        let its : x.order ≡ order = cc in
        let runs : Runs nvm x.number x.order = runs_as nvm x.number x.task x.order (small_job nvm x.number) (large_work nvm x.number) refl refl all.0 in
        subst (λ (o : Order). Runs nvm n o) its (subst (λ (k : ℕ). Runs nvm k x.order) same runs)
    go false t h more = more h

pub runs_of : (nvm : Nvm) (n : ℕ) (order : Order) → JobsRun nvm → order_in (Some nvm) n ≡ Some order → Runs nvm n order
runs_of nvm n order j h = found_runs nvm n order nvm.jobs j.run (sym (order-is (Some nvm) n) ∙ h)

-- ---- pages

pub small_page : (pair : Pair) (job : bighash.Job) → page_of (small_order pair job) ≡ job.bucket
small_page pair job = go job.phase
  where
    go : (phase : bighash.Phase) → page_of (small.order_of pair.small.flash.page job.bucket phase) ≡ job.bucket
    go bighash.Reading = refl
    go (bighash.Writing es losses) = refl

below : (k n : ℕ) → 1 ≤ n → k % n < n
below k n h = omega arith

-- a job of the small engine is about the page of a bucket
small_below : (nvm : Nvm) (pages : Pages) (n : ℕ) (job : bighash.Job) → StateFits nvm.pair.small pages → small_job nvm n ≡ Some job → job.bucket < nvm.pair.small.flash.buckets
small_below nvm pages n job fits at =
    let s = nvm.pair.small in
    let out = job_out s.flash (word_at s) pages n s.jobs job at fits.jobs_fit in
    subst (λ (b : ℕ). b < s.flash.buckets) (sym out.fit.2) (below (kept_of s.flash.bits (key_of job.op)) s.flash.buckets fits.limits.some_bucket)

free_apart : (m bucket : ℕ) (jobs : List bighash.Job) (job : bighash.Job) → bighash.job_at m jobs ≡ Some job → is_busy bucket jobs ≡ false → (job.bucket == bucket) ≡ false
free_apart m bucket [] job at free = absurd cc
free_apart m bucket (x ∷ jobs) job at free = go (x.number == m) refl at (x.bucket == bucket) refl free (free_apart m bucket jobs job)
  where
    go : (t : Bool) → (x.number == m) ≡ t → (if t then Some x else bighash.job_at m jobs) ≡ Some job → (u : Bool) → (x.bucket == bucket) ≡ u → (u || is_busy bucket jobs) ≡ false
        → (bighash.job_at m jobs ≡ Some job → is_busy bucket jobs ≡ false → (job.bucket == bucket) ≡ false) → (job.bucket == bucket) ≡ false
    go t e at true u free more = absurd cc
    go true e at false u free more = subst (λ (j : bighash.Job). (j.bucket == bucket) ≡ false) (some_is x job at) u
    go false e at false u free more = more at free

still_there : (n m : ℕ) (jobs : List bighash.Job) → (n == m) ≡ false → bighash.job_at m (bighash.without_job n jobs) ≡ bighash.job_at m jobs
still_there n m [] o = refl
still_there n m (x ∷ jobs) o = go (x.number == n) refl (x.number == m) refl (still_there n m jobs o)
  where
    go : (t : Bool) → (x.number == n) ≡ t → (u : Bool) → (x.number == m) ≡ u → bighash.job_at m (bighash.without_job n jobs) ≡ bighash.job_at m jobs → bighash.job_at m (bighash.without_job n (x ∷ jobs)) ≡ bighash.job_at m (x ∷ jobs)
    go true t true u h = let same : n ≡ m = sym (eqb-true x.number n t) ∙ eqb-true x.number m u in let e : (n == m) ≡ true = eq-eqb n m same in absurd (cc (e, o))
    go true t false u h = rw (t, u) refl
    go false t true u h = rw (t, u) refl
    go false t false u h = rw (t, u) h

-- two jobs of the small engine are on two buckets
small_apart : (nvm : Nvm) (pages : Pages) (n m : ℕ) (job other : bighash.Job) → StateFits nvm.pair.small pages → (n == m) ≡ false → small_job nvm n ≡ Some job → small_job nvm m ≡ Some other → (other.bucket == job.bucket) ≡ false
small_apart nvm pages n m job other fits o at there =
    let s = nvm.pair.small in
    let out = job_out s.flash (word_at s) pages n s.jobs job at fits.jobs_fit in
    free_apart m job.bucket (bighash.without_job n s.jobs) other (still_there n m s.jobs o ∙ there) out.free

-- ---- regions

large_page : (pair : Pair) (work : block.Work) → pair.small.flash.buckets ≤ page_of (large_order pair work)
large_page pair (Writing r bytes) = omega arith
large_page pair (Getting reading) = omega arith

-- a write of a region's page is alone
large_apart : (flash : FlashConfig) (pages : Pages) (n m r : ℕ) (bytes : List ℕ) (work : block.Work) (pair : Pair) → pair.small.flash ≡ flash → Sound flash pair.large → Fits flash pages pair.large → (n == m) ≡ false
    → block.work_of n pair.large.jobs ≡ Some (Writing r bytes) → block.work_of m pair.large.jobs ≡ Some work → page_of (large_order pair work) ≢ page_of (large_order pair (Writing r bytes))
large_apart flash pages n m r bytes (Writing q more) pair same sound fits o at there e =
    let s = pair.large in
    let out = (written_ending flash n r bytes s sound at).1 in
    let too = (written_ending flash m q more s sound there).1 in
    let there_at : page_no flash q (region_at q s.regions).written ≡ page_no flash r (region_at r s.regions).written = subst (λ (f : FlashConfig). page_no f q (region_at q s.regions).written ≡ page_no f r (region_at r s.regions).written) same e in
    let apart = page_apart flash q r (region_at q s.regions).written (region_at r s.regions).written too out there_at in
    let one : n ≡ m = one_writer flash s n m r bytes more sound at (there ∙ ap (λ x. Some (Writing x more)) apart.0) in
    let t : (n == m) ≡ true = eq-eqb n m one in
    absurd (cc (t, o))
large_apart flash pages n m r bytes (Getting reading) pair same sound fits o at there e =
    let s = pair.large in
    let out = (written_ending flash n r bytes s sound at).1 in
    let read = work_holds flash s.regions m (Getting reading) s.jobs sound.works there in
    let there_at : page_no flash reading.place.region reading.next ≡ page_no flash r (region_at r s.regions).written = subst (λ (f : FlashConfig). page_no f reading.place.region reading.next ≡ page_no f r (region_at r s.regions).written) same e in
    let apart = page_apart flash reading.place.region r reading.next (region_at r s.regions).written (omega (arith, read.0, read.1, fits.within reading.place.region)) out there_at in
    let below : reading.until ≤ (region_at r s.regions).written = (rw apart.0 at read.1) in
    absurd (omega (arith, read.0, apart.1))

-- ---- both

not_write : (pair : Pair) (reading : Reading) (write : Order) → write ≡ large_order pair (Getting reading) → IsWrite write → ⊥
not_write pair reading write e w = subst (λ (o : Order). IsWrite o) e w

apart_by : (flash : FlashConfig) (older : List Note) (nvm : Nvm) (n m : ℕ) (write other : Order) → EnginesFit flash older nvm → (n == m) ≡ false → Runs nvm n write → Runs nvm m other → IsWrite write → page_of other ≡ page_of write → ⊥
apart_by flash older nvm n m write other g o (OfSmall job at none is) (OfSmall k there gone its) w e =
    let pages : k.bucket ≡ job.bucket = sym (small_page nvm.pair k) ∙ sym (ap page_of its) ∙ e ∙ ap page_of is ∙ small_page nvm.pair job in
    let t : (k.bucket == job.bucket) ≡ true = eq-eqb k.bucket job.bucket pages in
    let f = small_apart nvm (bytes_at older) n m job k g.small_fits o at there in
    absurd (cc (t, f))
apart_by flash older nvm n m write other g o (OfSmall job at none is) (OfLarge work gone there its) w e =
    let low = small_below nvm (bytes_at older) n job g.small_fits at in
    let high = large_page nvm.pair work in
    let pages : page_of (large_order nvm.pair work) ≡ job.bucket = sym (ap page_of its) ∙ e ∙ ap page_of is ∙ small_page nvm.pair job in
    absurd (omega (arith, low, high, pages))
apart_by flash older nvm n m write other g o (OfLarge work none at is) (OfSmall k there gone its) w e =
    let low = small_below nvm (bytes_at older) m k g.small_fits there in
    let high = large_page nvm.pair work in
    let pages : k.bucket ≡ page_of (large_order nvm.pair work) = sym (small_page nvm.pair k) ∙ sym (ap page_of its) ∙ e ∙ ap page_of is in
    absurd (omega (arith, low, high, pages))
apart_by flash older nvm n m write other g o (OfLarge (Getting reading) none at is) (OfLarge k gone there its) w e = not_write nvm.pair reading write is w
apart_by flash older nvm n m write other g o (OfLarge (Writing r bytes) none at is) (OfLarge k gone there its) w e =
    large_apart flash (bytes_at older) n m r bytes k nvm.pair g.same g.large_sound g.large_fits o at there (sym (ap page_of its) ∙ e ∙ ap page_of is)

pub orders_alone : OrdersAlone
orders_alone flash older nvm g j n m write other o at there w e = apart_by flash older nvm n m write other g o (runs_of nvm n write j at) (runs_of nvm m other j there) w e
