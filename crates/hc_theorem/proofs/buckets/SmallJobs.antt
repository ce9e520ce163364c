-- The jobs of the small engine: which of them has a bucket, and what is being written of a key.
use Rattle.std.proofs.Common.{◌≡◌, ℕ, ◌==◌, Bool, true, false, List, [], ◌∷◌, ◌++◌, Option, Some, None, refl, arith, ap, sym, ◌∙◌, subst}
use Rattle.std.specs.Prelude.{if◌then◌else◌}
use Rattle.std.specs.Str.{bytes_eq}
use Rattle.std.proofs.lemmas.Bool.{eq-eqb}
use Rattle.hc_types.specs.Places.{bucket_at}
use Rattle.hc_types.specs.declared.config.FlashConfig.{FlashConfig}
use Rattle.hc_bucket.proofs.Numbers.{some_is}
use Rattle.hc_engines.specs.Engine.{Pages, Op, Put, Get, Delete, Flush, Reclaim}
use Rattle.hc_engines.specs.small.BigHash.{Job, is_busy, job_at, without_job, key_of}
use Rattle.hc_engines.specs.small.Held.{JobsFit}
use Rattle.hc_memory.proofs.Keyed.{same_bytes}
use Rattle.hc_invariant.specs.Standing.{put_in, first_of, written_by}
use Rattle.hc_proof.proofs.books.Changing.{other-way}
use Rattle.hc_proof.proofs.frames.Lists.{first-none, or_false}

-- keys of two buckets are two
pub keys-differ : (flash : FlashConfig) (a key : List ℕ) (bucket : ℕ) → bucket ≡ bucket_at flash a → (bucket_at flash key == bucket) ≡ false → bytes_eq a key ≡ false
keys-differ flash a key bucket here other = go (bytes_eq a key) refl
  where
    go : (t : Bool) → bytes_eq a key ≡ t → bytes_eq a key ≡ false
    go true p = let e : (bucket_at flash key == bucket) ≡ true = eq-eqb _ _ (ap (bucket_at flash) (sym (same_bytes a key p)) ∙ sym here) in absurd (cc (e, other))
    go false p = p

pub put-none : (key : List ℕ) (op : Op) → bytes_eq (key_of op) key ≡ false → put_in key op ≡ None
put-none key (Put e) h = rw h refl
put-none key (Get k) h = refl
put-none key (Delete k) h = refl
put-none key Flush h = refl
put-none key Reclaim h = refl

first-of-none : {A : Type 0} (o other : Option A) → o ≡ None → first_of o other ≡ other
first-of-none o other h = rw h refl

-- nothing is written in a bucket that no job is on
pub written-free : (flash : FlashConfig) (words : ℕ → Option ℕ) (pages : Pages) (jobs : List Job) (key : List ℕ) → JobsFit flash words pages jobs → is_busy (bucket_at flash key) jobs ≡ false → written_by key jobs ≡ None
written-free flash words pages [] key fit free = refl
written-free flash words pages (job ∷ jobs) key fit free =
    let f = or_false (job.bucket == bucket_at flash key) (is_busy (bucket_at flash key) jobs) free in
    first-of-none (put_in key job.op) (written_by key jobs) (put-none key job.op (keys-differ flash (key_of job.op) key job.bucket fit.0.2 (other-way job.bucket (bucket_at flash key) f.0)))
    ∙ written-free flash words pages jobs key fit.3 f.1

some-job : (x job : Job) (b : Bool) (rest : Option Job) → b ≡ true → (if b then Some x else rest) ≡ Some job → x ≡ job
some-job x job b rest t h = some_is x job (rw t at h)

later-job : (x job : Job) (b : Bool) (rest : Option Job) → b ≡ false → (if b then Some x else rest) ≡ Some job → rest ≡ Some job
later-job x job b rest t h = rw t at h

-- in other buckets nothing changes where a job is taken out
pub written-apart : (flash : FlashConfig) (words : ℕ → Option ℕ) (pages : Pages) (number : ℕ) (jobs : List Job) (sj : Job) (key : List ℕ) → job_at number jobs ≡ Some sj → JobsFit flash words pages jobs → (bucket_at flash key == sj.bucket) ≡ false
    → written_by key (without_job number jobs) ≡ written_by key jobs
written-apart flash words pages number [] sj key at fit other = refl
written-apart flash words pages number (x ∷ jobs) sj key at fit other = go (x.number == number) refl (written-apart flash words pages number jobs sj key)
  where
    none : x ≡ sj → put_in key x.op ≡ None
    none e = put-none key x.op (keys-differ flash (key_of x.op) key sj.bucket (sym (ap (λ (j : Job). j.bucket) e) ∙ fit.0.2) other)

    go : (t : Bool) → (x.number == number) ≡ t → (job_at number jobs ≡ Some sj → JobsFit flash words pages jobs → (bucket_at flash key == sj.bucket) ≡ false → written_by key (without_job number jobs) ≡ written_by key jobs)
        → written_by key (without_job number (x ∷ jobs)) ≡ written_by key (x ∷ jobs)
    go true p more = rw p (sym (first-of-none (put_in key x.op) (written_by key jobs) (none (some-job x sj (x.number == number) (job_at number jobs) p at))))
    go false p more = rw p (ap (first_of (put_in key x.op)) (more (later-job x sj (x.number == number) (job_at number jobs) p at) fit.3 other))

pub busy-at : (number : ℕ) (jobs : List Job) (job : Job) (bucket : ℕ) → job_at number jobs ≡ Some job → is_busy bucket jobs ≡ false → (job.bucket == bucket) ≡ false
busy-at number [] job bucket h free = absurd (cc)
busy-at number (x ∷ jobs) job bucket h free = let f = or_false (x.bucket == bucket) (is_busy bucket jobs) free in go (x.number == number) refl f.0 f.1 (busy-at number jobs job bucket)
  where
    go : (t : Bool) → (x.number == number) ≡ t → (x.bucket == bucket) ≡ false → is_busy bucket jobs ≡ false → (job_at number jobs ≡ Some job → is_busy bucket jobs ≡ false → (job.bucket == bucket) ≡ false) → (job.bucket == bucket) ≡ false
    go true p here there more = subst (λ (j : Job). (j.bucket == bucket) ≡ false) (some-job x job (x.number == number) (job_at number jobs) p h) here
    go false p here there more = more (later-job x job (x.number == number) (job_at number jobs) p h) there

-- what is written of a key of a job's bucket is what the job writes
pub written-here : (flash : FlashConfig) (words : ℕ → Option ℕ) (pages : Pages) (number : ℕ) (jobs : List Job) (sj : Job) (key : List ℕ) → job_at number jobs ≡ Some sj → JobsFit flash words pages jobs → sj.bucket ≡ bucket_at flash key
    → written_by key jobs ≡ put_in key sj.op
written-here flash words pages number [] sj key at fit here = absurd (cc)
written-here flash words pages number (x ∷ jobs) sj key at fit here = go (x.number == number) refl (written-here flash words pages number jobs sj key)
  where
    first : x ≡ sj → written_by key (x ∷ jobs) ≡ put_in key sj.op
    first e =
        let b : x.bucket ≡ bucket_at flash key = ap (λ (j : Job). j.bucket) e ∙ here in
        let free : is_busy (bucket_at flash key) jobs ≡ false = subst (λ (n : ℕ). is_busy n jobs ≡ false) b fit.1 in
        ap (first_of (put_in key x.op)) (written-free flash words pages jobs key fit.3 free) ∙ first-none (put_in key x.op) ∙ ap (λ (j : Job). put_in key j.op) e

    none : (sj.bucket == x.bucket) ≡ false → put_in key x.op ≡ None
    none o = put-none key x.op (keys-differ flash (key_of x.op) key x.bucket fit.0.2 (subst (λ (n : ℕ). (n == x.bucket) ≡ false) here o))

    go : (t : Bool) → (x.number == number) ≡ t → (job_at number jobs ≡ Some sj → JobsFit flash words pages jobs → sj.bucket ≡ bucket_at flash key → written_by key jobs ≡ put_in key sj.op) → written_by key (x ∷ jobs) ≡ put_in key sj.op
    go true p more = first (some-job x sj (x.number == number) (job_at number jobs) p at)
    go false p more =
        let there = later-job x sj (x.number == number) (job_at number jobs) p at in
        first-of-none (put_in key x.op) (written_by key jobs) (none (busy-at number jobs sj x.bucket there fit.1)) ∙ more there fit.3 here

-- ---- by number

pub at-other : (other number : ℕ) (jobs : List Job) → (other == number) ≡ false → job_at other (without_job number jobs) ≡ job_at other jobs
at-other other number [] h = refl
at-other other number (x ∷ jobs) h = go (x.number == number) refl (x.number == other) refl (at-other other number jobs h)
  where
    go : (t : Bool) → (x.number == number) ≡ t → (u : Bool) → (x.number == other) ≡ u → job_at other (without_job number jobs) ≡ job_at other jobs → job_at other (without_job number (x ∷ jobs)) ≡ job_at other (x ∷ jobs)
    go true p true q more = absurd (grind (arith, p, q, h))
    go true p false q more = rw p (rw q refl)
    go false p true q more = rw p (rw q refl)
    go false p false q more = rw p (rw q more)

pub at-front : (other : ℕ) (jobs : List Job) (job : Job) → (job.number == other) ≡ false → job_at other (jobs ++ job ∷ []) ≡ job_at other jobs
at-front other [] job h = rw h refl
at-front other (x ∷ jobs) job h = go (x.number == other) refl (at-front other jobs job h)
  where
    go : (t : Bool) → (x.number == other) ≡ t → job_at other (jobs ++ job ∷ []) ≡ job_at other jobs → job_at other (x ∷ (jobs ++ job ∷ [])) ≡ job_at other (x ∷ jobs)
    go true p more = rw p refl
    go false p more = rw p more

pub at-last : (number : ℕ) (jobs : List Job) (job : Job) → job_at number jobs ≡ None → job.number ≡ number → job_at number (jobs ++ job ∷ []) ≡ Some job
at-last number [] job none same = let t : (job.number == number) ≡ true = eq-eqb _ _ same in rw t refl
at-last number (x ∷ jobs) job none same = go (x.number == number) refl (at-last number jobs job)
  where
    go : (t : Bool) → (x.number == number) ≡ t → (job_at number jobs ≡ None → job.number ≡ number → job_at number (jobs ++ job ∷ []) ≡ Some job) → job_at number (x ∷ (jobs ++ job ∷ [])) ≡ Some job
    go true p more = absurd (grind (arith, none, p))
    go false p more = rw p (more (rw p at none) same)

-- a job is there, and its bucket is busy
pub busy-with : (number : ℕ) (jobs : List Job) (job : Job) → job_at number jobs ≡ Some job → is_busy job.bucket jobs ≡ true
busy-with number jobs job h = go (is_busy job.bucket jobs) refl
  where
    go : (t : Bool) → is_busy job.bucket jobs ≡ t → is_busy job.bucket jobs ≡ true
    go true p = p
    go false p = let o = busy-at number jobs job job.bucket h p in let e : (job.bucket == job.bucket) ≡ true = eq-eqb job.bucket job.bucket refl in absurd (cc (o, e))
