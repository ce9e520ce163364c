-- What BigHash holds after a change of one bucket.
use Rattle.std.proofs.Common.{◌≡◌, ℕ, Bool, true, false, ◌||◌, ◌==◌, List, [], ◌∷◌, ◌++◌, Option, Some, None, refl, sym, arith, ap, ◌∙◌, subst, length}
use Rattle.std.proofs.lemmas.Bool.{eqb-true, eq-eqb}
use Rattle.hc_types.specs.declared.config.FlashConfig.{FlashConfig}
use Rattle.hc_types.specs.Places.{bucket_at, is_small_by}
use Rattle.hc_types.specs.FlashEntry.{FlashEntry}
use Rattle.hc_bucket.specs.Page.{Fits, page_bytes}
use Rattle.hc_bucket.proofs.Pages.{page_again}
use Rattle.std.specs.Str.{bytes_eq}
use Rattle.hc_engines.specs.Engine.{Op, Put, Get, Delete, Flush, Reclaim, Answer, Nothing, Over, Absent, Found, Loss, is_lost, left_of, changed, Pages}
use Rattle.hc_engines.specs.small.Entries.{under}
use Rattle.hc_engines.specs.small.Bloom.{word_of}
use Rattle.hc_engines.specs.small.BigHash.{Job, is_busy, job_at, key_of, is_ours, given_up}
use Rattle.hc_engines.specs.small.Sound.{Limits}
use Rattle.hc_engines.specs.small.Held.{AllOwn, PageFits, JobFits, JobsFit, entries_at, entries_in, read_in}
use Rattle.hc_engines.proofs.Keys.{same-true}
use Rattle.hc_engines.proofs.small.Under.{under-key}
use Rattle.hc_engines.proofs.small.Fitting.{fits-none}
use Rattle.hc_engines.proofs.small.Losses.{Within, left-kept, left-lost, own_under, bucket_loss}

-- ---- one bucket

-- the entries of a page that fits its bucket
pub read_again : (size : ℕ) (es : List FlashEntry) (page : Option (List ℕ)) → page ≡ Some (page_bytes size es) → Fits size es → entries_in size page ≡ es
read_again size es page p fits = ap (entries_in size) p ∙ ap read_in (page_again size es fits)

pub record Has (flash : FlashConfig) (bucket : ℕ) (es : List FlashEntry) : Type 0 where
  pub fits : Fits flash.page es
  pub own : AllOwn flash bucket es

pub bucket_has : (flash : FlashConfig) (bucket : ℕ) (word : Option ℕ) (page : Option (List ℕ)) → Limits flash → PageFits flash bucket word page → Has flash bucket (entries_at flash.page word page)
bucket_has flash bucket None page l h = record { fits = fits-none flash.page (omega (arith, l.least_page)); own = tt }
bucket_has flash bucket (Some word) page l h =
    let same : entries_in flash.page page ≡ h.0 = read_again flash.page h.0 page h.1 h.2 in
    subst (λ es. Has flash bucket es) (sym same) (record { fits = h.2; own = h.4 })

pub bucket_word : (flash : FlashConfig) (bucket word : ℕ) (page : Option (List ℕ)) → PageFits flash bucket (Some word) page → word ≡ word_of (entries_in flash.page page)
bucket_word flash bucket word page h = h.3 ∙ ap word_of (sym (read_again flash.page h.0 page h.1 h.2))

-- ---- a bucket that is given up

lost-here : (flash : FlashConfig) (bucket : ℕ) (x : FlashEntry) → is_small_by flash x.key (length x.value) ≡ true → bucket_at flash x.key ≡ bucket → is_lost flash (bucket_loss bucket) x ≡ true
lost-here flash bucket x small here = let same : (bucket_at flash x.key == bucket) ≡ true = eq-eqb _ _ here in rw small (rw same refl)

gone-here : (flash : FlashConfig) (bucket : ℕ) (key : List ℕ) (es : List FlashEntry) (o : Option FlashEntry) → under key es ≡ o → AllOwn flash bucket es → None ≡ left_of flash (bucket_loss bucket) o
gone-here flash bucket key es None p own = refl
gone-here flash bucket key es (Some x) p own = let h = own_under flash bucket key es x own p in sym (left-lost flash (bucket_loss bucket) x (lost-here flash bucket x h.0 h.1))

pub give_up_changes : (flash : FlashConfig) (bucket : ℕ) (op : Op) (es : List FlashEntry) (key : List ℕ) → is_ours flash op ≡ true → bucket_at flash (key_of op) ≡ bucket → AllOwn flash bucket es
    → None ≡ left_of flash (bucket_loss bucket) (changed op (given_up op) key (under key es))
give_up_changes flash bucket (Put e) es key ours here own = cases (bytes_eq e.key key) refl
  where
    cases : (t : Bool) → bytes_eq e.key key ≡ t → None ≡ left_of flash (bucket_loss bucket) (changed (Put e) Over key (under key es))
    cases true p = rw p (sym (left-lost flash (bucket_loss bucket) e (lost-here flash bucket e ours here)))
    cases false p = rw p (gone-here flash bucket key es (under key es) refl own)
give_up_changes flash bucket (Get k) es key ours here own = gone-here flash bucket key es (under key es) refl own
give_up_changes flash bucket (Delete k) es key ours here own = cases (bytes_eq k key) refl
  where
    cases : (t : Bool) → bytes_eq k key ≡ t → None ≡ left_of flash (bucket_loss bucket) (changed (Delete k) Over key (under key es))
    cases true p = rw p refl
    cases false p = rw p (gone-here flash bucket key es (under key es) refl own)
give_up_changes flash bucket Flush es key ours here own = absurd (cc)
give_up_changes flash bucket Reclaim es key ours here own = absurd (cc)

-- ---- other buckets

not-same : (flash : FlashConfig) (bucket : ℕ) (a key : List ℕ) → bucket_at flash a ≡ bucket → (bucket_at flash key == bucket) ≡ false → bytes_eq a key ≡ false
not-same flash bucket a key here other = cases (bytes_eq a key) refl
  where
    cases : (t : Bool) → bytes_eq a key ≡ t → bytes_eq a key ≡ false
    cases true p = let e : (bucket_at flash key == bucket) ≡ true = eq-eqb _ _ (ap (bucket_at flash) (sym (same-true a key p)) ∙ here) in absurd (cc (e, other))
    cases false p = p

changed-other : (flash : FlashConfig) (bucket : ℕ) (op : Op) (answer : Answer) (key : List ℕ) (o : Option FlashEntry) → bucket_at flash (key_of op) ≡ bucket → (bucket_at flash key == bucket) ≡ false → changed op answer key o ≡ o
changed-other flash bucket (Put e) Nothing key o here other = refl
changed-other flash bucket (Put e) Over key o here other = rw (not-same flash bucket e.key key here other) refl
changed-other flash bucket (Put e) Absent key o here other = refl
changed-other flash bucket (Put e) (Found x) key o here other = refl
changed-other flash bucket (Get k) answer key o here other = refl
changed-other flash bucket (Delete k) Nothing key o here other = refl
changed-other flash bucket (Delete k) Over key o here other = rw (not-same flash bucket k key here other) refl
changed-other flash bucket (Delete k) Absent key o here other = refl
changed-other flash bucket (Delete k) (Found x) key o here other = refl
changed-other flash bucket Flush answer key o here other = refl
changed-other flash bucket Reclaim answer key o here other = refl

left-other : (flash : FlashConfig) (bucket : ℕ) (losses : List Loss) (key : List ℕ) (es : List FlashEntry) (o : Option FlashEntry) → under key es ≡ o → Within flash bucket losses → (bucket_at flash key == bucket) ≡ false → o ≡ left_of flash losses o
left-other flash bucket losses key es None p within other = refl
left-other flash bucket losses key es (Some x) p within other =
    let same : x.key ≡ key = same-true x.key key (under-key key es x p) in
    let apart : (bucket_at flash x.key == bucket) ≡ false = ap (λ (k : List ℕ). bucket_at flash k == bucket) same ∙ other in
    sym (left-kept flash losses x (within x apart))

-- what is held changes by the outcome at each key, where it does so at the keys of the bucket and other buckets are as they were
pub held_changes : (flash : FlashConfig) (bucket : ℕ) (op : Op) (answer : Answer) (losses : List Loss) (old new : ℕ → List FlashEntry) → bucket_at flash (key_of op) ≡ bucket → Within flash bucket losses
    → ((c : ℕ) → (c == bucket) ≡ false → new c ≡ old c)
    → ((key : List ℕ) → under key (new bucket) ≡ left_of flash losses (changed op answer key (under key (old bucket))))
    → (key : List ℕ) → under key (new (bucket_at flash key)) ≡ left_of flash losses (changed op answer key (under key (old (bucket_at flash key))))
held_changes flash bucket op answer losses old new here within others at key = cases (bucket_at flash key) refl (bucket_at flash key == bucket) refl
  where
    cases : (c : ℕ) → bucket_at flash key ≡ c → (t : Bool) → (bucket_at flash key == bucket) ≡ t → under key (new (bucket_at flash key)) ≡ left_of flash losses (changed op answer key (under key (old (bucket_at flash key))))
    cases c e true p = subst (λ (z : ℕ). under key (new z) ≡ left_of flash losses (changed op answer key (under key (old z)))) (sym (eqb-true _ _ p)) (at key)
    cases c e false p =
        ap (under key) (others (bucket_at flash key) p)
        ∙ left-other flash bucket losses key (old (bucket_at flash key)) (under key (old (bucket_at flash key))) refl within p
        ∙ ap (left_of flash losses) (sym (changed-other flash bucket op answer key (under key (old (bucket_at flash key))) here p))

-- ---- jobs

pub or-false : (a b : Bool) → (a || b) ≡ false → (a ≡ false) × (b ≡ false)
or-false true b h = absurd (cc)
or-false false b h = (refl, h)

pub jobs_frame : (flash : FlashConfig) (bucket : ℕ) (words more : ℕ → Option ℕ) (pages after : Pages) (jobs : List Job) → ((c : ℕ) → (c == bucket) ≡ false → more c ≡ words c) → ((c : ℕ) → (c == bucket) ≡ false → after c ≡ pages c)
    → is_busy bucket jobs ≡ false → JobsFit flash words pages jobs → JobsFit flash more after jobs
jobs_frame flash bucket words more pages after [] w p free fit = tt
jobs_frame flash bucket words more pages after (job ∷ jobs) w p free fit =
    let f = or-false (job.bucket == bucket) (is_busy bucket jobs) free in
    (subst (λ (o : Option (List ℕ)). JobFits flash (more job.bucket) o job) (sym (p job.bucket f.0)) (subst (λ (o : Option ℕ). JobFits flash o (pages job.bucket) job) (sym (w job.bucket f.0)) fit.0), fit.1, fit.2, jobs_frame flash bucket words more pages after jobs w p f.1 fit.3)

busy-push : (bucket : ℕ) (jobs : List Job) (job : Job) → is_busy bucket jobs ≡ false → (job.bucket == bucket) ≡ false → is_busy bucket (jobs ++ job ∷ []) ≡ false
busy-push bucket [] job free other = rw other refl
busy-push bucket (x ∷ jobs) job free other = let f = or-false (x.bucket == bucket) (is_busy bucket jobs) free in rw f.0 (busy-push bucket jobs job f.1 other)

at-tail : (x : Job) (jobs : List Job) (number : ℕ) → job_at number (x ∷ jobs) ≡ None → ((x.number == number) ≡ false) × (job_at number jobs ≡ None)
at-tail x jobs number none = cases (x.number == number) refl
  where
    cases : (t : Bool) → (x.number == number) ≡ t → ((x.number == number) ≡ false) × (job_at number jobs ≡ None)
    cases true p = absurd (grind (arith, none, p))
    cases false p = (p, rw p at none)

at-push : (number : ℕ) (jobs : List Job) (job : Job) → job_at number jobs ≡ None → (job.number == number) ≡ false → job_at number (jobs ++ job ∷ []) ≡ None
at-push number [] job none other = rw other refl
at-push number (x ∷ jobs) job none other = let n = at-tail x jobs number none in rw n.0 (at-push number jobs job n.1 other)

pub swap-eq : (a b : ℕ) → (a == b) ≡ false → (b == a) ≡ false
swap-eq a b h = grind (arith, h)

pub jobs_push : (flash : FlashConfig) (words : ℕ → Option ℕ) (pages : Pages) (jobs : List Job) (job : Job) → JobsFit flash words pages jobs → JobFits flash (words job.bucket) (pages job.bucket) job → is_busy job.bucket jobs ≡ false → job_at job.number jobs ≡ None
    → JobsFit flash words pages (jobs ++ job ∷ [])
jobs_push flash words pages [] job fit one free none = (one, refl, refl, tt)
jobs_push flash words pages (x ∷ jobs) job fit one free none =
    let f = or-false (x.bucket == job.bucket) (is_busy job.bucket jobs) free in
    let n = at-tail x jobs job.number none in
    (fit.0, busy-push x.bucket jobs job fit.1 (swap-eq x.bucket job.bucket f.0), at-push x.number jobs job fit.2 (swap-eq x.number job.number n.0), jobs_push flash words pages jobs job fit.3 one f.1 n.1)
