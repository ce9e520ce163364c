-- Each plan keeps what BigHash is, and changes what it holds by its outcome.
use Rattle.std.proofs.Common.{◌≡◌, ℕ, Bool, true, false, ◌==◌, ◌<◌, List, [], ◌∷◌, ◌++◌, Option, Some, None, refl, sym, arith, ap, ◌∙◌, subst, length, set, get_or-set_other, get_or-set_same, length-set}
use Rattle.std.specs.Prelude.{is_some, slice_index_or}
use Rattle.std.proofs.lemmas.Bool.{eqb-true, eq-eqb}
use Rattle.hc_types.specs.declared.config.FlashConfig.{FlashConfig}
use Rattle.hc_types.specs.Places.{bucket_at}
use Rattle.hc_types.specs.FlashEntry.{FlashEntry}
use Rattle.hc_bucket.specs.Page.{Fits, page_bytes}
use Rattle.hc_engines.specs.Engine.{Op, Put, Get, Delete, Flush, Reclaim, Answer, Nothing, Over, Loss, left_of, changed, found, Pages, with_page, Answers}
use Rattle.hc_engines.specs.small.Entries.{under, without, page_put, put_losses}
use Rattle.hc_engines.specs.small.Bloom.{word_of}
use Rattle.hc_engines.specs.small.BigHash.{BigHash, Phase, Reading, Writing, ToRead, ToWrite, ToEnd, ToKeep, ToGiveUp, make_job, moved, word_at, is_busy, job_at, without_job, key_of, is_ours, given_up}
use Rattle.hc_engines.specs.small.Sound.{CanStart}
use Rattle.hc_engines.specs.small.Held.{AllOwn, PageFits, JobFits, JobsFit, WorkFits, StateFits, Keeps, held, bucket_entries, entries_at}
use Rattle.hc_engines.proofs.small.Under.{differ_from}
use Rattle.hc_engines.proofs.small.Fitting.{fits-put, fits-without, small_entry}
use Rattle.hc_engines.proofs.small.Losses.{Within, left-none, bucket_loss, within_none, within_put, within_bucket, put_changes, delete_changes, own_put, own_without}
use Rattle.hc_engines.proofs.small.Holding.{Has, bucket_has, read_again, give_up_changes, held_changes, jobs_frame, jobs_push}

-- the other jobs, when this one is on this bucket
pub record Spare (s : BigHash) (pages : Pages) (number bucket : ℕ) : Type 0 where
  pub rest : JobsFit s.flash (word_at s) pages (without_job number s.jobs)
  pub free : is_busy bucket (without_job number s.jobs) ≡ false
  pub gone : job_at number (without_job number s.jobs) ≡ None

-- the operation is BigHash's, and this is its bucket
pub record Mine (s : BigHash) (bucket : ℕ) (op : Op) : Type 0 where
  pub can : CanStart op
  pub ours : is_ours s.flash op ≡ true
  pub here : bucket ≡ bucket_at s.flash (key_of op)
  pub within : bucket < s.flash.buckets

pub has_entries : (s : BigHash) (pages : Pages) (bucket : ℕ) → StateFits s pages → Has s.flash bucket (bucket_entries s pages bucket)
has_entries s pages bucket fits = bucket_has s.flash bucket (word_at s bucket) (pages bucket) fits.limits (fits.pages_fit bucket)

-- what doesn't change a bucket: an answer that says so
same-changes : (s : BigHash) (pages : Pages) (bucket : ℕ) (op : Op) (answer : Answer) → Mine s bucket op → ((key : List ℕ) → under key (bucket_entries s pages bucket) ≡ changed op answer key (under key (bucket_entries s pages bucket)))
    → (key : List ℕ) → held s pages key ≡ left_of s.flash [] (changed op answer key (held s pages key))
same-changes s pages bucket op answer mine h =
    held_changes s.flash bucket op answer [] (bucket_entries s pages) (bucket_entries s pages) (sym mine.here) (within_none s.flash bucket) (λ c n. refl)
    (λ key. h key ∙ sym (left-none s.flash (changed op answer key (under key (bucket_entries s pages bucket)))))

nothing-changes : (op : Op) (key : List ℕ) (o : Option FlashEntry) → o ≡ changed op Nothing key o
nothing-changes (Put e) key o = refl
nothing-changes (Get k) key o = refl
nothing-changes (Delete k) key o = refl
nothing-changes Flush key o = refl
nothing-changes Reclaim key o = refl

pub nothing-held : (flash : FlashConfig) (op : Op) (key : List ℕ) (o : Option FlashEntry) → o ≡ left_of flash [] (changed op Nothing key o)
nothing-held flash op key o = nothing-changes op key o ∙ sym (left-none flash (changed op Nothing key o))

state-with : (s : BigHash) (pages : Pages) (number bucket : ℕ) (op : Op) (phase : Phase) → StateFits s pages → Spare s pages number bucket → JobFits s.flash (word_at s bucket) (pages bucket) (make_job number bucket op phase)
    → StateFits (record { flash = s.flash; words = s.words; jobs = without_job number s.jobs ++ make_job number bucket op phase ∷ [] }) pages
state-with s pages number bucket op phase fits spare job = record {
  limits = fits.limits;
  buckets = fits.buckets;
  pages_fit = fits.pages_fit;
  jobs_fit = jobs_push s.flash (word_at s) pages (without_job number s.jobs) (make_job number bucket op phase) spare.rest job spare.free spare.gone;
}

known-page : (flash : FlashConfig) (bucket : ℕ) (word : Option ℕ) (page : Option (List ℕ)) → PageFits flash bucket word page → is_some word ≡ true → (bytes : List ℕ) × (page ≡ Some bytes)
known-page flash bucket None page h w = absurd (cc)
known-page flash bucket (Some word) page h w = (page_bytes flash.page h.0, h.1)

pub keep_read : (s : BigHash) (pages : Pages) (number bucket : ℕ) (op : Op) → StateFits s pages → Spare s pages number bucket → Mine s bucket op → is_some (word_at s bucket) ≡ true → Keeps op s pages (moved s number bucket op ToRead) pages
keep_read s pages number bucket op fits spare mine word = record {
  fits = state-with s pages number bucket op Reading fits spare (mine.can, mine.ours, mine.here, word);
  changes = (refl, λ key. nothing-held s.flash op key (held s pages key));
  known = known-page s.flash bucket (word_at s bucket) (pages bucket) (fits.pages_fit bucket) word;
}

pub keep_write : (s : BigHash) (pages : Pages) (number bucket : ℕ) (op : Op) (es : List FlashEntry) (losses : List Loss) → StateFits s pages → Spare s pages number bucket → Mine s bucket op
    → WorkFits s.flash.page op (Writing es losses) (word_at s bucket) (bucket_entries s pages bucket) → Keeps op s pages (moved s number bucket op (ToWrite es losses)) pages
keep_write s pages number bucket op es losses fits spare mine work = record {
  fits = state-with s pages number bucket op (Writing es losses) fits spare (mine.can, mine.ours, mine.here, work);
  changes = (refl, λ key. nothing-held s.flash op key (held s pages key));
  known = tt;
}

pub keep_end : (s : BigHash) (pages : Pages) (number bucket : ℕ) (op : Op) (answer : Answer) → StateFits s pages → Spare s pages number bucket → Mine s bucket op
    → ((key : List ℕ) → under key (bucket_entries s pages bucket) ≡ changed op answer key (under key (bucket_entries s pages bucket))) → Answers op answer (held s pages) → Keeps op s pages (moved s number bucket op (ToEnd answer)) pages
keep_end s pages number bucket op answer fits spare mine h answers = record {
  fits = record { limits = fits.limits; buckets = fits.buckets; pages_fit = fits.pages_fit; jobs_fit = spare.rest };
  changes = (same-changes s pages bucket op answer mine h, answers);
  known = tt;
}

-- ---- a bucket that changes

word-other : (words : List (Option ℕ)) (bucket : ℕ) (word : Option ℕ) (c : ℕ) → (c == bucket) ≡ false → slice_index_or (set words bucket word) c None ≡ slice_index_or words c None
word-other words bucket word c other = get_or-set_other words bucket c word None (λ e. let t : (c == bucket) ≡ true = eq-eqb _ _ e in absurd (cc (t, other)))

with_word : BigHash → ℕ → ℕ → Option ℕ → BigHash
with_word s number bucket word = record { flash = s.flash; words = set s.words bucket word; jobs = without_job number s.jobs }

abbrev OthersSame : ℕ → Pages → Pages → Type 0
OthersSame bucket pages after = (c : ℕ) → (c == bucket) ≡ false → after c ≡ pages c

state-changed : (s : BigHash) (pages after : Pages) (number bucket : ℕ) (word : Option ℕ) → StateFits s pages → Spare s pages number bucket → bucket < s.flash.buckets → OthersSame bucket pages after → PageFits s.flash bucket word (after bucket)
    → StateFits (record { flash = s.flash; words = set s.words bucket word; jobs = without_job number s.jobs }) after
state-changed s pages after number bucket word fits spare lt others page = record {
  limits = fits.limits;
  buckets = length-set s.words bucket word ∙ fits.buckets;
  pages_fit = λ c. each c (c == bucket) refl;
  jobs_fit = jobs_frame s.flash bucket (word_at s) (λ c. slice_index_or (set s.words bucket word) c None) pages after (without_job number s.jobs) (word-other s.words bucket word) others spare.free spare.rest;
}
  where
    each : (c : ℕ) → (t : Bool) → (c == bucket) ≡ t → PageFits s.flash c (slice_index_or (set s.words bucket word) c None) (after c)
    each c true p =
        let lt2 : bucket < length s.words = omega (arith, lt, fits.buckets) in
        subst (λ (z : ℕ). PageFits s.flash z (slice_index_or (set s.words bucket word) z None) (after z)) (sym (eqb-true _ _ p)) (subst (λ (o : Option ℕ). PageFits s.flash bucket o (after bucket)) (sym (get_or-set_same s.words bucket word None lt2)) page)
    each c false p = subst (λ (o : Option ℕ). PageFits s.flash c o (after c)) (sym (word-other s.words bucket word c p)) (subst (λ (o : Option (List ℕ)). PageFits s.flash c (word_at s c) o) (sym (others c p)) (fits.pages_fit c))

-- what is held then
held-changed : (s : BigHash) (pages after : Pages) (number bucket : ℕ) (op : Op) (word : Option ℕ) (answer : Answer) (losses : List Loss) (es : List FlashEntry) → StateFits s pages → Mine s bucket op → OthersSame bucket pages after → Within s.flash bucket losses
    → entries_at s.flash.page word (after bucket) ≡ es → ((key : List ℕ) → under key es ≡ left_of s.flash losses (changed op answer key (under key (bucket_entries s pages bucket))))
    → (key : List ℕ) → held (record { flash = s.flash; words = set s.words bucket word; jobs = without_job number s.jobs }) after key ≡ left_of s.flash losses (changed op answer key (held s pages key))
held-changed s pages after number bucket op word answer losses es fits mine others within now h =
    held_changes s.flash bucket op answer losses (bucket_entries s pages) (λ c. entries_at s.flash.page (slice_index_or (set s.words bucket word) c None) (after c)) (sym mine.here) within
    (λ c n. ap (λ (o : Option ℕ). entries_at s.flash.page o (after c)) (word-other s.words bucket word c n) ∙ ap (entries_at s.flash.page (word_at s c)) (others c n))
    (λ key. ap (under key) (here ∙ now) ∙ h key)
  where
    here : entries_at s.flash.page (slice_index_or (set s.words bucket word) bucket None) (after bucket) ≡ entries_at s.flash.page word (after bucket)
    here = let lt : bucket < length s.words = omega (arith, mine.within, fits.buckets) in ap (λ (o : Option ℕ). entries_at s.flash.page o (after bucket)) (get_or-set_same s.words bucket word None lt)

given-answers : (s : BigHash) (after : Pages) (number bucket : ℕ) (op : Op) → Mine s bucket op → bucket < length s.words → Answers op (given_up op) (held (record { flash = s.flash; words = set s.words bucket None; jobs = without_job number s.jobs }) after)
given-answers s after number bucket (Put e) mine lt = tt
given-answers s after number bucket (Get key) mine lt =
    let word : slice_index_or (set s.words bucket None) (bucket_at s.flash key) None ≡ None = subst (λ (z : ℕ). slice_index_or (set s.words bucket None) z None ≡ None) mine.here (get_or-set_same s.words bucket None None lt) in
    sym (ap (λ (o : Option ℕ). found (under key (entries_at s.flash.page o (after (bucket_at s.flash key))))) word)
given-answers s after number bucket (Delete key) mine lt = tt
given-answers s after number bucket Flush mine lt = tt
given-answers s after number bucket Reclaim mine lt = tt

pub keep_given_up : (s : BigHash) (pages after : Pages) (number bucket : ℕ) (op : Op) → StateFits s pages → Spare s pages number bucket → Mine s bucket op → OthersSame bucket pages after → Keeps op s pages (moved s number bucket op ToGiveUp) after
keep_given_up s pages after number bucket op fits spare mine others = record {
  fits = state-changed s pages after number bucket None fits spare mine.within others tt;
  changes = (
    held-changed s pages after number bucket op None (given_up op) (bucket_loss bucket) [] fits mine others (within_bucket s.flash bucket) refl
        (λ key. give_up_changes s.flash bucket op (bucket_entries s pages bucket) key mine.ours (sym mine.here) (has_entries s pages bucket fits).own),
    given-answers s after number bucket op mine (omega (arith, mine.within, fits.buckets)),
  );
  known = tt;
}

with-others : (pages : Pages) (bucket : ℕ) (page : Option (List ℕ)) → OthersSame bucket pages (with_page pages bucket page)
with-others pages bucket page c n = rw (other-way (bucket == c) refl) refl
  where
    other-way : (t : Bool) → (bucket == c) ≡ t → (bucket == c) ≡ false
    other-way true t = let same : bucket ≡ c = eqb-true bucket c t in absurd (let k : true ≡ false = sym (eq-eqb c bucket (sym same)) ∙ n in cc)
    other-way false t = t

with-here : (pages : Pages) (bucket : ℕ) (page : Option (List ℕ)) → with_page pages bucket page bucket ≡ page
with-here pages bucket page = let t : (bucket == bucket) ≡ true = eq-eqb bucket bucket refl in rw t refl

pub fails_others : (pages : Pages) (bucket : ℕ) (page : Option (List ℕ)) → OthersSame bucket pages (with_page pages bucket page)
fails_others = with-others

kept : (s : BigHash) (pages : Pages) (number bucket : ℕ) (op : Op) (es : List FlashEntry) (losses : List Loss) → StateFits s pages → Spare s pages number bucket → Mine s bucket op → Fits s.flash.page es → AllOwn s.flash bucket es → Within s.flash bucket losses
    → ((key : List ℕ) → under key es ≡ left_of s.flash losses (changed op Over key (under key (bucket_entries s pages bucket))))
    → ((new : List ℕ → Option FlashEntry) → Answers op Over new)
    → Keeps op s pages (moved s number bucket op (ToKeep (word_of es) losses)) (with_page pages bucket (Some (page_bytes s.flash.page es)))
kept s pages number bucket op es losses fits spare mine ok own within h answers =
    let here = with-here pages bucket (Some (page_bytes s.flash.page es)) in
    let others = with-others pages bucket (Some (page_bytes s.flash.page es)) in
    record {
      fits = state-changed s pages (with_page pages bucket (Some (page_bytes s.flash.page es))) number bucket (Some (word_of es)) fits spare mine.within others (es, here, ok, refl, own);
      changes = (held-changed s pages (with_page pages bucket (Some (page_bytes s.flash.page es))) number bucket op (Some (word_of es)) Over losses es fits mine others within (read_again s.flash.page es _ here ok) h, answers _);
      known = tt;
    }

pub keep_kept : (s : BigHash) (pages : Pages) (number bucket : ℕ) (op : Op) (es : List FlashEntry) (losses : List Loss) → StateFits s pages → Spare s pages number bucket → Mine s bucket op
    → WorkFits s.flash.page op (Writing es losses) (word_at s bucket) (bucket_entries s pages bucket) → Keeps op s pages (moved s number bucket op (ToKeep (word_of es) losses)) (with_page pages bucket (Some (page_bytes s.flash.page es)))
keep_kept s pages number bucket (Put e) es losses fits spare mine work =
    let has = has_entries s pages bucket fits in
    let old : List FlashEntry = bucket_entries s pages bucket in
    let small = small_entry s.flash e fits.limits mine.can mine.ours in
    let done : Keeps (Put e) s pages (moved s number bucket (Put e) (ToKeep (word_of (page_put s.flash.page e old)) (put_losses s.flash.page e old))) (with_page pages bucket (Some (page_bytes s.flash.page (page_put s.flash.page e old)))) =
    kept s pages number bucket (Put e) (page_put s.flash.page e old) (put_losses s.flash.page e old) fits spare mine (fits-put s.flash.page e old (omega (arith, fits.limits.most_page)) has.fits small.0 small.1) (own_put s.flash bucket s.flash.page e old has.own mine.ours (sym mine.here))
    (within_put s.flash bucket s.flash.page e old has.own) (λ key. put_changes s.flash s.flash.page e old key (differ_from old has.fits.distinct_keys)) (λ new. tt) in
    subst (λ (l : List Loss). Keeps (Put e) s pages (moved s number bucket (Put e) (ToKeep (word_of es) l)) (with_page pages bucket (Some (page_bytes s.flash.page es)))) (sym work.1)
    (subst (λ (x : List FlashEntry). Keeps (Put e) s pages (moved s number bucket (Put e) (ToKeep (word_of x) (put_losses s.flash.page e old))) (with_page pages bucket (Some (page_bytes s.flash.page x)))) (sym work.0) done)
keep_kept s pages number bucket (Delete k) es losses fits spare mine work =
    let has = has_entries s pages bucket fits in
    let old : List FlashEntry = bucket_entries s pages bucket in
    let done : Keeps (Delete k) s pages (moved s number bucket (Delete k) (ToKeep (word_of (without k old)) [])) (with_page pages bucket (Some (page_bytes s.flash.page (without k old)))) =
    kept s pages number bucket (Delete k) (without k old) [] fits spare mine (fits-without s.flash.page k old has.fits) (own_without s.flash bucket k old has.own) (within_none s.flash bucket) (λ key. delete_changes s.flash k old key) (λ new. tt) in
    subst (λ (l : List Loss). Keeps (Delete k) s pages (moved s number bucket (Delete k) (ToKeep (word_of es) l)) (with_page pages bucket (Some (page_bytes s.flash.page es)))) (sym work.1)
    (subst (λ (x : List FlashEntry). Keeps (Delete k) s pages (moved s number bucket (Delete k) (ToKeep (word_of x) [])) (with_page pages bucket (Some (page_bytes s.flash.page x)))) (sym work.0) done)
keep_kept s pages number bucket (Get k) es losses fits spare mine work = absurd work
keep_kept s pages number bucket Flush es losses fits spare mine work = absurd work
keep_kept s pages number bucket Reclaim es losses fits spare mine work = absurd work
