-- What stays as it was: over pages of others, and under other numbers.
use Rattle.std.proofs.Common.{◌≡◌, ℕ, ◌<◌, ◌≤◌, ◌==◌, Bool, true, false, List, [], ◌∷◌, ◌++◌, Option, Some, None, refl, sym, ap, ◌∙◌, subst, arith, length, inl, inr}
use Rattle.std.specs.Prelude.{if◌then◌else◌, option_map, nat_lt, ◌⊎◌}
use Rattle.std.proofs.Math.Nat.{mod-lt}
use Rattle.std.proofs.lemmas.Bool.{eqb-true, eq-eqb}
use Rattle.std.proofs.lemmas.List.{get_or_past}
use Rattle.hc_types.specs.declared.config.FlashConfig.{FlashConfig}
use Rattle.hc_types.specs.Places.{bucket_at, kept_of}
use Rattle.hc_engines.specs.Engine.{Op, IoResult, Pages, then_under_way, Busy}
use Rattle.hc_engines.specs.small.Entries.{under}
use Rattle.hc_engines.specs.small.BigHash.{BigHash, Job, Phase, Reading, Writing, Plan, ToRead, ToWrite, ToEnd, ToKeep, ToGiveUp, Moved, moved, make_job, with_job, begun, start_at, our_bucket, word_at, is_busy, job_at, without_job, key_of, next_of, waits, resume, resumed, resume_job, went_on}
use Rattle.hc_engines.specs.small.Held.{StateFits, PageFits, JobFits, JobsFit, entries_at, under_way, job_under_way, KeptByOthers, StartGoes, ResumeGoes}
use Rattle.hc_engines.proofs.small.UnderWay.{none_is_there}
use Rattle.hc_engines.proofs.small.Resumed.{job_out}
use Rattle.hc_bucket.proofs.Numbers.{some_is}
use Rattle.hc_engines.proofs.small.Serving.{none_under}

-- ---- pages

lt-or-le : (a b : ℕ) → (a < b) ⊎ (b ≤ a)
lt-or-le a b = cases (nat_lt a b) refl
  where
    cases : (t : Bool) → nat_lt a b ≡ t → (a < b) ⊎ (b ≤ a)
    cases true p = inl (grind (arith, p))
    cases false p = inr (grind (arith, p))

page-kept : (s : BigHash) (pages after : Pages) → ((page : ℕ) → page < s.flash.buckets → after page ≡ pages page) → StateFits s pages → (c : ℕ) (o : Option ℕ) → word_at s c ≡ o → PageFits s.flash c o (pages c) → PageFits s.flash c o (after c)
page-kept s pages after same fits c None w h = tt
page-kept s pages after same fits c (Some word) w h = subst (λ (p : Option (List ℕ)). PageFits s.flash c (Some word) p) (sym (same c (within (lt-or-le c (length s.words))))) h
  where
    within : (c < length s.words) ⊎ (length s.words ≤ c) → c < s.flash.buckets
    within (inl lt) = omega (arith, lt, fits.buckets)
    within (inr le) = let none : word_at s c ≡ None = get_or_past s.words c None le in absurd (cc (none, w))

bucket-within : (s : BigHash) (pages : Pages) → StateFits s pages → (key : List ℕ) → bucket_at s.flash key < s.flash.buckets
bucket-within s pages fits key = let some : 0 < s.flash.buckets = omega (arith, fits.limits.some_bucket) in mod-lt (kept_of s.flash.bits key) some

jobs-kept : (flash : FlashConfig) (words : ℕ → Option ℕ) (pages after : Pages) (jobs : List Job) → 1 ≤ flash.buckets → ((page : ℕ) → page < flash.buckets → after page ≡ pages page) → JobsFit flash words pages jobs → JobsFit flash words after jobs
jobs-kept flash words pages after [] some same fit = tt
jobs-kept flash words pages after (job ∷ jobs) some same fit =
    let lt0 : 0 < flash.buckets = omega (arith, some) in
    let lt : job.bucket < flash.buckets = subst (λ (b : ℕ). b < flash.buckets) (sym fit.0.2) (mod-lt (kept_of flash.bits (key_of job.op)) lt0) in
    (subst (λ (p : Option (List ℕ)). JobFits flash (words job.bucket) p job) (sym (same job.bucket lt)) fit.0, fit.1, fit.2, jobs-kept flash words pages after jobs some same fit.3)

pub kept_by_others : KeptByOthers
kept_by_others s pages after same fits = (
  record { limits = fits.limits; buckets = fits.buckets; pages_fit = λ c. page-kept s pages after same fits c (word_at s c) refl (fits.pages_fit c); jobs_fit = jobs-kept s.flash (word_at s) pages after s.jobs fits.limits.some_bucket same fits.jobs_fit },
  λ key. ap (λ (p : Option (List ℕ)). under key (entries_at s.flash.page (word_at s (bucket_at s.flash key)) p)) (same (bucket_at s.flash key) (bucket-within s pages fits key)),
)

-- ---- numbers

at-other : (other number : ℕ) (jobs : List Job) → (other == number) ≡ false → job_at other (without_job number jobs) ≡ job_at other jobs
at-other other number [] h = refl
at-other other number (x ∷ jobs) h = cases (x.number == number) refl (x.number == other) refl (at-other other number jobs h)
  where
    cases : (t : Bool) → (x.number == number) ≡ t → (u : Bool) → (x.number == other) ≡ u → job_at other (without_job number jobs) ≡ job_at other jobs → job_at other (without_job number (x ∷ jobs)) ≡ job_at other (x ∷ jobs)
    cases true p true q more = absurd (grind (arith, p, q, h))
    cases true p false q more = rw p (rw q refl)
    cases false p true q more = rw p (rw q refl)
    cases false p false q more = rw p (rw q more)

at-last : (number : ℕ) (jobs : List Job) (job : Job) → job_at number jobs ≡ None → job.number ≡ number → job_at number (jobs ++ job ∷ []) ≡ Some job
at-last number [] job none same = let t : (job.number == number) ≡ true = eq-eqb _ _ same in rw t refl
at-last number (x ∷ jobs) job none same = cases (x.number == number) refl (at-last number jobs job)
  where
    cases : (t : Bool) → (x.number == number) ≡ t → (job_at number jobs ≡ None → job.number ≡ number → job_at number (jobs ++ job ∷ []) ≡ Some job) → job_at number (x ∷ (jobs ++ job ∷ [])) ≡ Some job
    cases true p more = absurd (grind (arith, none, p))
    cases false p more = rw p (more (rw p at none) same)

at-front : (other : ℕ) (jobs : List Job) (job : Job) → (job.number == other) ≡ false → job_at other (jobs ++ job ∷ []) ≡ job_at other jobs
at-front other [] job h = rw h refl
at-front other (x ∷ jobs) job h = cases (x.number == other) refl (at-front other jobs job h)
  where
    cases : (t : Bool) → (x.number == other) ≡ t → job_at other (jobs ++ job ∷ []) ≡ job_at other jobs → job_at other (x ∷ (jobs ++ job ∷ [])) ≡ job_at other (x ∷ jobs)
    cases true p more = rw p refl
    cases false p more = rw p more

swapped : (a b : ℕ) → (a == b) ≡ false → (b == a) ≡ false
swapped a b h = grind (arith, h)

-- a plan is carried out: what is under way under each number
goes-here : (s : BigHash) (number bucket : ℕ) (op : Op) (plan : Plan) → job_at number (without_job number s.jobs) ≡ None → under_way (moved s number bucket op plan).state number ≡ then_under_way op (next_of s.flash.page bucket op plan)
goes-here s number bucket op ToRead gone = ap (option_map (job_under_way s.flash)) (at-last number (without_job number s.jobs) (make_job number bucket op Reading) gone refl)
goes-here s number bucket op (ToWrite es losses) gone = ap (option_map (job_under_way s.flash)) (at-last number (without_job number s.jobs) (make_job number bucket op (Writing es losses)) gone refl)
goes-here s number bucket op (ToEnd answer) gone = ap (option_map (job_under_way s.flash)) gone
goes-here s number bucket op (ToKeep word losses) gone = ap (option_map (job_under_way s.flash)) gone
goes-here s number bucket op ToGiveUp gone = ap (option_map (job_under_way s.flash)) gone

with-other : (jobs : List Job) (number bucket : ℕ) (op : Op) (phase : Option Phase) (other : ℕ) → (other == number) ≡ false → job_at other (with_job jobs number bucket op phase) ≡ job_at other jobs
with-other jobs number bucket op None other h = refl
with-other jobs number bucket op (Some phase) other h = at-front other jobs (make_job number bucket op phase) (swapped other number h)

goes : (s : BigHash) (number bucket : ℕ) (op : Op) (plan : Plan) (other : ℕ) (t : Bool) → (other == number) ≡ t → job_at number (without_job number s.jobs) ≡ None
    → under_way (moved s number bucket op plan).state other ≡ (if t then then_under_way op (next_of s.flash.page bucket op plan) else under_way s other)
goes s number bucket op plan other true p gone = subst (λ (n : ℕ). under_way (moved s number bucket op plan).state n ≡ then_under_way op (next_of s.flash.page bucket op plan)) (sym (eqb-true _ _ p)) (goes-here s number bucket op plan gone)
goes s number bucket op plan other false p gone =
    ap (option_map (job_under_way s.flash)) (with-other (without_job number s.jobs) number bucket op (waits plan) other p ∙ at-other other number s.jobs p)

none-here : (s : BigHash) (number other : ℕ) (t : Bool) → (other == number) ≡ t → under_way s number ≡ None → under_way s other ≡ (if t then None else under_way s other)
none-here s number other true p none = ap (under_way s) (eqb-true _ _ p) ∙ none
none-here s number other false p none = refl

started : (s : BigHash) (number : ℕ) (op : Op) (o : Option ℕ) (other : ℕ) → under_way s number ≡ None → under_way (start_at s number op o).state other ≡ (if other == number then then_under_way op (start_at s number op o).next else under_way s other)
started s number op None other none = none-here s number other (other == number) refl none
started s number op (Some bucket) other none = cases (is_busy bucket s.jobs)
  where
    cases : (t : Bool) → under_way (if t then record { state = s; next = Busy } else moved s number bucket op (begun (word_at s bucket) op)).state other ≡ (if other == number then then_under_way op (if t then record { state = s; next = Busy } else moved s number bucket op (begun (word_at s bucket) op)).next else under_way s other)
    cases true = none-here s number other (other == number) refl none
    cases false =
        let at : job_at number s.jobs ≡ None = none_under s.flash (job_at number s.jobs) none in
        let gone : job_at number (without_job number s.jobs) ≡ None = ap (job_at number) (none_is_there number s.jobs at) ∙ at in
        goes s number bucket op (begun (word_at s bucket) op) other (other == number) refl gone

pub start_goes : StartGoes
start_goes s number op none other = started s number op (our_bucket s.flash op) other none

resumed-goes : (s : BigHash) (number : ℕ) (job : Job) (o : Option Plan) (m : Moved) (other : ℕ) → job.number ≡ number → job_at number (without_job number s.jobs) ≡ None → resumed s job o ≡ Some m
    → under_way m.state other ≡ (if other == number then then_under_way job.op m.next else under_way s other)
resumed-goes s number job None m other same gone made = absurd (cc)
resumed-goes s number job (Some plan) m other same gone made =
    let e : moved s job.number job.bucket job.op plan ≡ m = some_is _ _ made in
    let at : job_at job.number (without_job job.number s.jobs) ≡ None = subst (λ (n : ℕ). job_at n (without_job n s.jobs) ≡ None) (sym same) gone in
    let went = goes s job.number job.bucket job.op plan other (other == job.number) refl at in
    subst (λ (n : ℕ). under_way m.state other ≡ (if other == n then then_under_way job.op m.next else under_way s other)) same
    (subst (λ (x : Moved). under_way x.state other ≡ (if other == job.number then then_under_way job.op x.next else under_way s other)) e went)

-- the same where no two jobs have one number, whatever the pages have
pub single_goes : (s : BigHash) (number : ℕ) (result : IoResult) (job : Job) (m : Moved) → job.number ≡ number → job_at number (without_job number s.jobs) ≡ None → job_at number s.jobs ≡ Some job → resume s number result ≡ Some m
    → (other : ℕ) → under_way m.state other ≡ (if other == number then then_under_way job.op m.next else under_way s other)
single_goes s number result job m same gone at made other =
    let came : resumed s job (went_on s.flash.page job.op job.phase result) ≡ Some m = ap (λ (j : Option Job). resume_job s j result) (sym at) ∙ made in
    resumed-goes s number job (went_on s.flash.page job.op job.phase result) m other same gone came

pub resume_goes : ResumeGoes
resume_goes s pages number result job m fits at made other =
    let o = job_out s.flash (word_at s) pages number s.jobs job at fits.jobs_fit in
    single_goes s number result job m o.number_is o.gone at made other
