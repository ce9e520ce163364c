-- The law of resume.
use Rattle.std.proofs.Common.{◌≡◌, ℕ, Bool, true, false, ◌==◌, ◌<◌, List, [], ◌∷◌, Option, Some, None, refl, sym, arith, ap, ◌∙◌, subst}
use Rattle.std.specs.Prelude.{is_some, if◌then◌else◌, option_map}
use Rattle.std.proofs.Math.Nat.{mod-lt}
use Rattle.std.proofs.lemmas.Bool.{eqb-true}
use Rattle.hc_types.specs.declared.config.FlashConfig.{FlashConfig}
use Rattle.hc_types.specs.Places.{kept_of}
use Rattle.hc_types.specs.FlashEntry.{FlashEntry}
use Rattle.hc_bucket.specs.Page.{page_bytes}
use Rattle.hc_bucket.specs.Reading.{page_at}
use Rattle.hc_bucket.proofs.Numbers.{some_is}
use Rattle.hc_bucket.proofs.Pages.{page_again}
use Rattle.std.specs.Str.{bytes_eq}
use Rattle.hc_engines.specs.Engine.{Op, Put, Get, Delete, Flush, Reclaim, Over, found, changed, Pages, IoResult, Page, Written, Failed, IsHonest, pages_after}
use Rattle.hc_engines.specs.small.Entries.{under, without, page_put, put_losses}
use Rattle.hc_engines.specs.small.BigHash.{BigHash, Job, Phase, Reading, Writing, Moved, ToWrite, ToEnd, moved, went_on, was_read, read_as, resume_job, word_at, is_busy, job_at, without_job, key_of}
use Rattle.hc_engines.specs.small.Held.{StateFits, Keeps, bucket_entries, entries_at, ResumeKeeps, JobsFit, JobFits, PageFits, WorkFits, order_of}
use Rattle.hc_engines.proofs.Keys.{same-true}
use Rattle.hc_engines.proofs.small.Holding.{read_again}
use Rattle.hc_engines.proofs.small.Keeping.{Spare, Mine, keep_write, keep_end, keep_kept, keep_given_up, fails_others}
use Rattle.hc_engines.proofs.small.Holding.{or-false}
use Rattle.hc_engines.proofs.small.Holding.{swap-eq}

busy-without : (bucket number : ℕ) (jobs : List Job) → is_busy bucket jobs ≡ false → is_busy bucket (without_job number jobs) ≡ false
busy-without bucket number [] h = refl
busy-without bucket number (job ∷ jobs) h = let f = or-false (job.bucket == bucket) (is_busy bucket jobs) h in cases (job.number == number) refl f.0 f.1 (busy-without bucket number jobs f.1)
  where
    cases : (t : Bool) → (job.number == number) ≡ t → (job.bucket == bucket) ≡ false → is_busy bucket jobs ≡ false → is_busy bucket (without_job number jobs) ≡ false → is_busy bucket (without_job number (job ∷ jobs)) ≡ false
    cases true p here there more = rw p there
    cases false p here there more = rw p (rw here more)

at-without : (n number : ℕ) (jobs : List Job) → job_at n jobs ≡ None → job_at n (without_job number jobs) ≡ None
at-without n number [] h = refl
at-without n number (job ∷ jobs) h = cases (job.number == number) refl (job.number == n) refl (at-without n number jobs)
  where
    cases : (t : Bool) → (job.number == number) ≡ t → (u : Bool) → (job.number == n) ≡ u → (job_at n jobs ≡ None → job_at n (without_job number jobs) ≡ None) → job_at n (without_job number (job ∷ jobs)) ≡ None
    cases t p true q more = absurd (grind (arith, h, q))
    cases true p false q more = rw p (rw q at h)
    cases false p false q more = rw p (rw q (more (rw q at h)))

busy-at : (number : ℕ) (jobs : List Job) (job : Job) (bucket : ℕ) → job_at number jobs ≡ Some job → is_busy bucket jobs ≡ false → (job.bucket == bucket) ≡ false
busy-at number [] job bucket h free = absurd (cc)
busy-at number (x ∷ jobs) job bucket h free = let f = or-false (x.bucket == bucket) (is_busy bucket jobs) free in cases (x.number == number) refl f.0 f.1 (busy-at number jobs job bucket)
  where
    cases : (t : Bool) → (x.number == number) ≡ t → (x.bucket == bucket) ≡ false → is_busy bucket jobs ≡ false → (job_at number jobs ≡ Some job → is_busy bucket jobs ≡ false → (job.bucket == bucket) ≡ false) → (job.bucket == bucket) ≡ false
    cases true p here there more = let e : x ≡ job = some_is x job (rw p at h) in subst (λ (j : Job). (j.bucket == bucket) ≡ false) e here
    cases false p here there more = more (rw p at h) there

pub record Out (flash : FlashConfig) (words : ℕ → Option ℕ) (pages : Pages) (number : ℕ) (jobs : List Job) (job : Job) : Type 0 where
  pub fit : JobFits flash (words job.bucket) (pages job.bucket) job
  pub number_is : job.number ≡ number
  pub free : is_busy job.bucket (without_job number jobs) ≡ false
  pub gone : job_at number (without_job number jobs) ≡ None
  pub rest : JobsFit flash words pages (without_job number jobs)

pub job_out : (flash : FlashConfig) (words : ℕ → Option ℕ) (pages : Pages) (number : ℕ) (jobs : List Job) (job : Job) → job_at number jobs ≡ Some job → JobsFit flash words pages jobs → Out flash words pages number jobs job
job_out flash words pages number [] job h fit = absurd (cc)
job_out flash words pages number (x ∷ jobs) job h fit = cases (x.number == number) refl (job_out flash words pages number jobs job)
  where
    first : x ≡ job → (x.number == number) ≡ true → Out flash words pages number (x ∷ jobs) job
    first e p =
        let n : x.number ≡ number = eqb-true _ _ p in
        subst (λ (j : Job). Out flash words pages number (x ∷ jobs) j) e (record { fit = fit.0; number_is = n; free = rw p fit.1; gone = rw p (subst (λ (z : ℕ). job_at z jobs ≡ None) n fit.2); rest = rw p fit.3 })

    cases : (t : Bool) → (x.number == number) ≡ t → (job_at number jobs ≡ Some job → JobsFit flash words pages jobs → Out flash words pages number jobs job) → Out flash words pages number (x ∷ jobs) job
    cases true p more = first (some_is x job (rw p at h)) p
    cases false p more =
        let there : job_at number jobs ≡ Some job = rw p at h in
        let o = more there fit.3 in
        record {
          fit = o.fit;
          number_is = o.number_is;
          free = rw p (rw (swap-eq job.bucket x.bucket (busy-at number jobs job x.bucket there fit.1)) o.free);
          gone = rw p (rw p o.gone);
          rest = rw p (fit.0, busy-without x.bucket number jobs fit.1, at-without x.number number jobs fit.2, o.rest);
        }

-- ---- what was read

page_read : (flash : FlashConfig) (bucket : ℕ) (word : Option ℕ) (page : Option (List ℕ)) (bytes : List ℕ) → PageFits flash bucket word page → is_some word ≡ true → page ≡ Some bytes → page_at flash.page bytes ≡ Some (entries_at flash.page word page)
page_read flash bucket None page bytes h w p = absurd (cc)
page_read flash bucket (Some word) page bytes h w p =
    let same : page_bytes flash.page h.0 ≡ bytes = some_is (page_bytes flash.page h.0) bytes (sym h.1 ∙ p) in
    ap (page_at flash.page) (sym same) ∙ page_again flash.page h.0 h.2 ∙ ap (λ (es : List FlashEntry). Some es) (sym (read_again flash.page h.0 page h.1 h.2))

delete-absent : (k key : List ℕ) (es : List FlashEntry) → under k es ≡ None → under key es ≡ changed (Delete k) Over key (under key es)
delete-absent k key es none = cases (bytes_eq k key) refl
  where
    cases : (t : Bool) → bytes_eq k key ≡ t → under key es ≡ changed (Delete k) Over key (under key es)
    cases true p = rw p (ap (λ (z : List ℕ). under z es) (sym (same-true k key p)) ∙ none)
    cases false p = rw p refl

deletes : (s : BigHash) (pages : Pages) (number bucket : ℕ) (k : List ℕ) (o : Option FlashEntry) → under k (bucket_entries s pages bucket) ≡ o → StateFits s pages → Spare s pages number bucket → Mine s bucket (Delete k)
    → Keeps (Delete k) s pages (moved s number bucket (Delete k) (if is_some o then ToWrite (without k (bucket_entries s pages bucket)) [] else ToEnd Over)) pages
deletes s pages number bucket k None p fits spare mine = keep_end s pages number bucket (Delete k) Over fits spare mine (λ key. delete-absent k key (bucket_entries s pages bucket) p) tt
deletes s pages number bucket k (Some e) p fits spare mine = keep_write s pages number bucket (Delete k) (without k (bucket_entries s pages bucket)) [] fits spare mine (refl, refl)

reads : (s : BigHash) (pages : Pages) (number bucket : ℕ) (op : Op) → StateFits s pages → Spare s pages number bucket → Mine s bucket op → Keeps op s pages (moved s number bucket op (was_read s.flash.page op (bucket_entries s pages bucket))) pages
reads s pages number bucket (Put e) fits spare mine = keep_write s pages number bucket (Put e) (page_put s.flash.page e (bucket_entries s pages bucket)) (put_losses s.flash.page e (bucket_entries s pages bucket)) fits spare mine (refl, refl)
reads s pages number bucket (Get key) fits spare mine =
    keep_end s pages number bucket (Get key) (found (under key (bucket_entries s pages bucket))) fits spare mine (λ k. refl) (ap (λ (b : ℕ). found (under key (bucket_entries s pages b))) mine.here)
reads s pages number bucket (Delete k) fits spare mine = deletes s pages number bucket k (under k (bucket_entries s pages bucket)) refl fits spare mine
reads s pages number bucket Flush fits spare mine = absurd (cc (mine.ours))
reads s pages number bucket Reclaim fits spare mine = absurd (cc (mine.ours))

goes : (s : BigHash) (pages : Pages) (number bucket : ℕ) (op : Op) (phase : Phase) (result : IoResult) (m : Moved) → StateFits s pages → Spare s pages number bucket → Mine s bucket op
    → WorkFits s.flash.page op phase (word_at s bucket) (bucket_entries s pages bucket) → option_map (moved s number bucket op) (went_on s.flash.page op phase result) ≡ Some m → IsHonest (order_of s.flash.page bucket phase) result pages
    → Keeps op s pages m (pages_after (order_of s.flash.page bucket phase) result pages)
goes s pages number bucket op Reading (Page bytes) m fits spare mine work r honest =
    let read = page_read s.flash bucket (word_at s bucket) (pages bucket) bytes (fits.pages_fit bucket) work honest in
    let e : moved s number bucket op (was_read s.flash.page op (bucket_entries s pages bucket)) ≡ m = ap (λ (o : Option (List FlashEntry)). moved s number bucket op (read_as s.flash.page op o)) (sym read) ∙ some_is _ _ r in
    subst (λ (x : Moved). Keeps op s pages x pages) e (reads s pages number bucket op fits spare mine)
goes s pages number bucket op Reading Failed m fits spare mine work r honest = subst (λ (x : Moved). Keeps op s pages x pages) (some_is _ _ r) (keep_given_up s pages pages number bucket op fits spare mine (λ c n. refl))
goes s pages number bucket op Reading Written m fits spare mine work r honest = absurd (cc)
goes s pages number bucket op (Writing es losses) Written m fits spare mine work r honest =
    subst (λ (x : Moved). Keeps op s pages x (pages_after (order_of s.flash.page bucket (Writing es losses)) Written pages)) (some_is _ _ r) (keep_kept s pages number bucket op es losses fits spare mine work)
goes s pages number bucket op (Writing es losses) Failed m fits spare mine work r honest =
    subst (λ (x : Moved). Keeps op s pages x (pages_after (order_of s.flash.page bucket (Writing es losses)) Failed pages)) (some_is _ _ r) (keep_given_up s pages _ number bucket op fits spare mine (fails_others pages bucket None))
goes s pages number bucket op (Writing es losses) (Page bytes) m fits spare mine work r honest = absurd (cc)

pub resume_keeps : ResumeKeeps
resume_keeps s pages number result job m fits at r honest =
    let o = job_out s.flash (word_at s) pages number s.jobs job at fits.jobs_fit in
    let some : 0 < s.flash.buckets = omega (arith, fits.limits.some_bucket) in
    let within : job.bucket < s.flash.buckets = subst (λ (b : ℕ). b < s.flash.buckets) (sym o.fit.2) (mod-lt (kept_of s.flash.bits (key_of job.op)) some) in
    let spare : Spare s pages job.number job.bucket = subst (λ (n : ℕ). Spare s pages n job.bucket) (sym o.number_is) (record { rest = o.rest; free = o.free; gone = o.gone }) in
    let went : option_map (moved s job.number job.bucket job.op) (went_on s.flash.page job.op job.phase result) ≡ Some m = ap (λ (j : Option Job). resume_job s j result) (sym at) ∙ r in
    goes s pages job.number job.bucket job.op job.phase result m fits spare (record { can = o.fit.0; ours = o.fit.1; here = o.fit.2; within = within }) o.fit.3 went honest
