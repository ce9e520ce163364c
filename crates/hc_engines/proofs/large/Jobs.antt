-- Operations come and go, and one region changes.
use Rattle.std.proofs.Common.{◌≡◌, ℕ, ◌+◌, ◌<◌, ◌≤◌, Bool, true, false, List, [], ◌∷◌, length, set, Option, Some, None, refl, ap, arith}
use Rattle.std.proofs.lemmas.Bool.{eqb-true}
use Rattle.std.specs.Prelude.{if◌then◌else◌, ◌==◌, nat_lt}
use Rattle.hc_types.specs.declared.config.FlashConfig.{FlashConfig}
use Rattle.hc_types.specs.Tally.{count}
use Rattle.hc_engines.specs.large.Region.{Open, Sealed, Region, region_at}
use Rattle.hc_engines.specs.large.Index.{Place}
use Rattle.hc_engines.specs.large.Block.{Work, Writing, Job, Block, work_of, without_job, job_added, with_job}
use Rattle.hc_engines.specs.large.Numbers.{is_in}
use Rattle.hc_engines.specs.large.Sound.{is_stored, is_listed, writes, reads, writers, readers, WorkHolds, AllHold, Holds, Sound}
use Rattle.hc_engines.proofs.large.Lists.{same_num, region_at-set, each-set}

abbrev has_no : ℕ → Job → Bool
has_no n job = job.number == n

-- ---- operations by number

swapped : (a b : ℕ) → (a == b) ≡ false → (b == a) ≡ false
swapped a b h = grind (arith, h)

-- one operation more, whichever place it has in the order
pub work_added : (number : ℕ) (work : Work) (jobs : List Job) → work_of number (job_added number work jobs) ≡ Some work
work_added number work [] = rw (same_num number) refl
work_added number work (job ∷ jobs) = go (nat_lt job.number number) refl (work_added number work jobs)
  where
    go : (t : Bool) → nat_lt job.number number ≡ t → work_of number (job_added number work jobs) ≡ Some work → work_of number (if t then job ∷ job_added number work jobs else record { number = number; work = work } ∷ job ∷ jobs) ≡ Some work
    go true t more = let other : (job.number == number) ≡ false = (grind (arith, t)) in rw other more
    go false t more = rw (same_num number) refl

pub count_added : (p : Job → Bool) (number : ℕ) (work : Work) (jobs : List Job) → count p (job_added number work jobs) ≡ (if p (record { number = number; work = work }) then 1 else 0) + count p jobs
count_added p number work [] = refl
count_added p number work (job ∷ jobs) = go (nat_lt job.number number) (count_added p number work jobs)
  where
    go : (t : Bool) → count p (job_added number work jobs) ≡ (if p (record { number = number; work = work }) then 1 else 0) + count p jobs
        → count p (if t then job ∷ job_added number work jobs else record { number = number; work = work } ∷ job ∷ jobs) ≡ (if p (record { number = number; work = work }) then 1 else 0) + ((if p job then 1 else 0) + count p jobs)
    go true more = omega (arith, more)
    go false more = refl

works_added : (flash : FlashConfig) (regions : List Region) (number : ℕ) (work : Work) (jobs : List Job) → WorkHolds flash regions work → AllHold flash regions jobs → AllHold flash regions (job_added number work jobs)
works_added flash regions number work [] own h = (own, tt)
works_added flash regions number work (job ∷ jobs) own h = go (nat_lt job.number number) (works_added flash regions number work jobs own h.1)
  where
    go : (t : Bool) → AllHold flash regions (job_added number work jobs) → AllHold flash regions (if t then job ∷ job_added number work jobs else record { number = number; work = work } ∷ job ∷ jobs)
    go true more = (h.0, more)
    go false more = (own, h)

-- the same state, with the operation in front of the others
abbrev pub in_front : ℕ → Work → Block → Block
in_front number work s = record s { jobs = record { number = number; work = work } ∷ s.jobs }

pub added_sound : (flash : FlashConfig) (number : ℕ) (work : Work) (s : Block) → Sound flash (in_front number work s) → Sound flash (with_job number work s)
added_sound flash number work s sound = record {
  current = sound.current;
  sealed = sound.sealed;
  flushed = sound.flushed;
  listed = sound.listed;
  regions = λ q. rw (count_added (λ (job : Job). reads q job.work) number work s.jobs, count_added (λ (job : Job). writes q job.work) number work s.jobs) (sound.regions q);
  works = works_added flash s.regions number work s.jobs sound.works.0 sound.works.1;
  single = λ n. rw (count_added (λ (job : Job). job.number == n) number work s.jobs) (sound.single n);
}

-- the operations under other numbers, where one comes or goes
pub added_other : (number n : ℕ) (work : Work) (jobs : List Job) → (n == number) ≡ false → work_of n (job_added number work jobs) ≡ work_of n jobs
added_other number n work [] o = rw (swapped n number o) refl
added_other number n work (job ∷ jobs) o = go (nat_lt job.number number) (added_other number n work jobs o)
  where
    go : (t : Bool) → work_of n (job_added number work jobs) ≡ work_of n jobs → work_of n (if t then job ∷ job_added number work jobs else record { number = number; work = work } ∷ job ∷ jobs) ≡ work_of n (job ∷ jobs)
    go true more = ap (λ (o : Option Work). if job.number == n then Some job.work else o) more
    go false more = rw (swapped n number o) refl

pub without_other : (number n : ℕ) (jobs : List Job) → (n == number) ≡ false → work_of n (without_job number jobs) ≡ work_of n jobs
without_other number n [] o = refl
without_other number n (job ∷ jobs) o = go (job.number == number) refl (without_other number n jobs o)
  where
    go : (t : Bool) → (job.number == number) ≡ t → work_of n (without_job number jobs) ≡ work_of n jobs → work_of n (if t then without_job number jobs else job ∷ without_job number jobs) ≡ (if job.number == n then Some job.work else work_of n jobs)
    go true t e = let same : job.number ≡ number = eqb-true job.number number t in rw (same, swapped n number o) e
    go false t e = rw e refl

-- nothing is under way with a number that was taken out
pub work_ended : (number : ℕ) (jobs : List Job) → work_of number (without_job number jobs) ≡ None
work_ended number [] = refl
work_ended number (job ∷ jobs) = go (job.number == number) refl (work_ended number jobs)
  where
    go : (t : Bool) → (job.number == number) ≡ t → work_of number (without_job number jobs) ≡ None → work_of number (if t then without_job number jobs else job ∷ without_job number jobs) ≡ None
    go true t e = e
    go false t e = rw t e

-- a number with which nothing is under way is free
pub free_of : (number : ℕ) (jobs : List Job) → work_of number jobs ≡ None → count (has_no number) jobs ≡ 0
free_of number [] e = refl
free_of number (job ∷ jobs) e = go (job.number == number) e (free_of number jobs)
  where
    go : (t : Bool) → (if t then Some job.work else work_of number jobs) ≡ None → (work_of number jobs ≡ None → count (has_no number) jobs ≡ 0) → (if t then 1 else 0) + count (has_no number) jobs ≡ 0
    go true e more = absurd (cc)
    go false e more = omega (arith, more e)

-- an operation that writes a page of the region is counted
pub writer_counted : (n r : ℕ) (bytes : List ℕ) (jobs : List Job) → work_of n jobs ≡ Some (Writing r bytes) → 0 < writers r jobs
writer_counted n r bytes [] w = absurd (cc)
writer_counted n r bytes (job ∷ jobs) w = go (job.number == n) w (writer_counted n r bytes jobs)
  where
    go : (t : Bool) → (if t then Some job.work else work_of n jobs) ≡ Some (Writing r bytes) → (work_of n jobs ≡ Some (Writing r bytes) → 0 < writers r jobs) → 0 < (if writes r job.work then 1 else 0) + writers r jobs
    go true v f = let same : job.work ≡ Writing r bytes = cc in rw (same, same_num r) (omega arith)
    go false v f = omega (arith, f v)

-- ---- an operation is taken out

pub absent_stays : (number : ℕ) (jobs : List Job) → count (has_no number) jobs ≡ 0 → without_job number jobs ≡ jobs
absent_stays number [] h = refl
absent_stays number (job ∷ jobs) h = go (job.number == number) refl h (λ g. absent_stays number jobs g)
  where
    go : (t : Bool) → (job.number == number) ≡ t → (if t then 1 else 0) + count (has_no number) jobs ≡ 0 → (count (has_no number) jobs ≡ 0 → without_job number jobs ≡ jobs) → (if t then without_job number jobs else job ∷ without_job number jobs) ≡ job ∷ jobs
    go true t h f = absurd (omega arith)
    go false t h f = ap (λ js. job ∷ js) (f (omega arith))

-- what is counted is the operation and the others
pub counted_apart : (p : Work → Bool) (number : ℕ) (work : Work) (jobs : List Job) → count (has_no number) jobs ≤ 1 → work_of number jobs ≡ Some work
    → count (λ (job : Job). p job.work) jobs ≡ (if p work then 1 else 0) + count (λ (job : Job). p job.work) (without_job number jobs)
counted_apart p number work [] one w = absurd (cc)
counted_apart p number work (job ∷ jobs) one w = go (job.number == number) refl one w (λ o v. counted_apart p number work jobs o v)
  where
    go : (t : Bool) → (job.number == number) ≡ t → (if t then 1 else 0) + count (has_no number) jobs ≤ 1 → (if t then Some job.work else work_of number jobs) ≡ Some work
        → (count (has_no number) jobs ≤ 1 → work_of number jobs ≡ Some work → count (λ (j : Job). p j.work) jobs ≡ (if p work then 1 else 0) + count (λ (j : Job). p j.work) (without_job number jobs))
        → (if p job.work then 1 else 0) + count (λ (j : Job). p j.work) jobs ≡ (if p work then 1 else 0) + count (λ (j : Job). p j.work) (if t then without_job number jobs else job ∷ without_job number jobs)
    go true t o v f = let same : job.work ≡ work = cc in rw (same, absent_stays number jobs (omega arith)) refl
    go false t o v f = omega (arith, f (omega arith) v)

pub works_left : (flash : FlashConfig) (regions : List Region) (number : ℕ) (jobs : List Job) → AllHold flash regions jobs → AllHold flash regions (without_job number jobs)
works_left flash regions number [] h = tt
works_left flash regions number (job ∷ jobs) h = go (job.number == number) (works_left flash regions number jobs h.1)
  where
    go : (t : Bool) → AllHold flash regions (without_job number jobs) → AllHold flash regions (if t then without_job number jobs else job ∷ without_job number jobs)
    go true f = f
    go false f = (h.0, f)

pub work_holds : (flash : FlashConfig) (regions : List Region) (number : ℕ) (work : Work) (jobs : List Job) → AllHold flash regions jobs → work_of number jobs ≡ Some work → WorkHolds flash regions work
work_holds flash regions number work [] h w = absurd (cc)
work_holds flash regions number work (job ∷ jobs) h w = go (job.number == number) w (λ v. work_holds flash regions number work jobs h.1 v)
  where
    go : (t : Bool) → (if t then Some job.work else work_of number jobs) ≡ Some work → (work_of number jobs ≡ Some work → WorkHolds flash regions work) → WorkHolds flash regions work
    go true v f = let same : job.work ≡ work = cc in rw (← same) h.0
    go false v f = f v

fewer : (n number : ℕ) (jobs : List Job) → count (has_no n) (without_job number jobs) ≤ count (has_no n) jobs
fewer n number [] = omega arith
fewer n number (job ∷ jobs) = go (job.number == number) (fewer n number jobs)
  where
    go : (t : Bool) → count (has_no n) (without_job number jobs) ≤ count (has_no n) jobs → count (has_no n) (if t then without_job number jobs else job ∷ without_job number jobs) ≤ (if has_no n job then 1 else 0) + count (has_no n) jobs
    go true f = omega arith
    go false f = omega arith

none_left : (number : ℕ) (jobs : List Job) → count (has_no number) (without_job number jobs) ≡ 0
none_left number [] = refl
none_left number (job ∷ jobs) = go (job.number == number) refl (none_left number jobs)
  where
    go : (t : Bool) → (job.number == number) ≡ t → count (has_no number) (without_job number jobs) ≡ 0 → count (has_no number) (if t then without_job number jobs else job ∷ without_job number jobs) ≡ 0
    go true t f = f
    go false t f = rw t (omega arith)

-- the operations under way but one, which has ended
pub record Left (flash : FlashConfig) (number : ℕ) (work : Work) (s : Block) (jobs : List Job) : Type 0 where
  pub writers_then : (q : ℕ) → writers q s.jobs ≡ (if writes q work then 1 else 0) + writers q jobs
  pub readers_then : (q : ℕ) → readers q s.jobs ≡ (if reads q work then 1 else 0) + readers q jobs
  pub works : AllHold flash s.regions jobs
  pub own : WorkHolds flash s.regions work
  pub single : (n : ℕ) → count (has_no n) jobs ≤ 1
  pub free : count (has_no number) jobs ≡ 0

pub ended_left : (flash : FlashConfig) (number : ℕ) (work : Work) (s : Block) → Sound flash s → work_of number s.jobs ≡ Some work → Left flash number work s (without_job number s.jobs)
ended_left flash number work s sound w = record {
  writers_then = λ q. counted_apart (writes q) number work s.jobs (sound.single number) w;
  readers_then = λ q. counted_apart (reads q) number work s.jobs (sound.single number) w;
  works = works_left flash s.regions number s.jobs sound.works;
  own = work_holds flash s.regions number work s.jobs sound.works w;
  single = λ n. omega (arith, fewer n number s.jobs, sound.single n);
  free = none_left number s.jobs;
}

-- an operation begins, whose number is free
pub single_more : (number n : ℕ) (work : Work) (jobs : List Job) → count (has_no number) jobs ≡ 0 → ((n : ℕ) → count (has_no n) jobs ≤ 1) → count (has_no n) (record { number = number; work = work } ∷ jobs) ≤ 1
single_more number n work jobs free one = go (number == n) refl
  where
    go : (t : Bool) → (number == n) ≡ t → (if t then 1 else 0) + count (has_no n) jobs ≤ 1
    go true t = let same : number ≡ n = eqb-true number n t in let none : count (has_no n) jobs ≡ 0 = (rw same at free) in omega arith
    go false t = omega (arith, one n)

-- ---- one region changes

-- the state after a change of region r to x, and of who works on it
pub record Changed (flash : FlashConfig) (r : ℕ) (x : Region) (s new : Block) : Type 0 where
  pub there : r < length s.regions
  pub regions : new.regions ≡ set s.regions r x
  pub index : new.index ≡ s.index
  pub appended : x.appended ≡ (region_at r s.regions).appended
  pub current : (q : ℕ) → new.current ≡ Some q → (if q == r then x else region_at q s.regions).status ≡ Open
  pub sealed : (q : ℕ) → is_in q new.sealed ≡ true → (if q == r then x else region_at q s.regions).status ≡ Sealed
  pub flushed : (q : ℕ) → is_in q new.flushed ≡ true → is_stored (if q == r then x else region_at q s.regions).status ≡ true
  pub holds : Holds flash (readers r new.jobs) (writers r new.jobs) x
  pub others : (q : ℕ) → (q == r) ≡ false → (readers q new.jobs ≡ readers q s.jobs) × (writers q new.jobs ≡ writers q s.jobs)
  pub works : AllHold flash (set s.regions r x) new.jobs
  pub single : (n : ℕ) → count (has_no n) new.jobs ≤ 1

pub changed_sound : (flash : FlashConfig) (r : ℕ) (x : Region) (s new : Block) → Sound flash s → Changed flash r x s new → Sound flash new
changed_sound flash r x s new sound c = record {
  current = λ q h. rw (c.regions, region_at-set s.regions r q x c.there) (c.current q h);
  sealed = λ q h. rw (c.regions, region_at-set s.regions r q x c.there) (c.sealed q h);
  flushed = λ q h. rw (c.regions, region_at-set s.regions r q x c.there) (c.flushed q h);
  listed = λ h p e. rw (c.regions, region_at-set s.regions r p.region x c.there) (listed h p (sound.listed h p ((rw c.index at e))) (p.region == r) refl);
  regions = λ q. rw c.regions (each-set (λ q y. Holds flash (readers q new.jobs) (writers q new.jobs) y) s.regions r x c.there c.holds (λ q n. let o = c.others q n in rw (o.0, o.1) (sound.regions q)) q);
  works = rw c.regions c.works;
  single = c.single;
}
  where
    listed : (h : ℕ) (p : Place) → is_listed h p.offset (region_at p.region s.regions).appended ≡ true → (t : Bool) → (p.region == r) ≡ t → is_listed h p.offset (if t then x else region_at p.region s.regions).appended ≡ true
    listed h p l true t = let same : p.region ≡ r = eqb-true p.region r t in rw c.appended (rw same at l)
    listed h p l false t = l
