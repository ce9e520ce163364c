-- The law of start.
use Rattle.std.proofs.Common.{◌≡◌, ℕ, Bool, true, false, ◌<◌, List, [], ◌∷◌, Option, Some, None, refl, sym, arith, ap, ◌∙◌, subst}
use Rattle.std.specs.Prelude.{is_some, if◌then◌else◌}
use Rattle.std.proofs.Math.Nat.{mod-lt}
use Rattle.hc_types.specs.Places.{kept_of}
use Rattle.hc_types.specs.declared.config.FlashConfig.{FlashConfig}
use Rattle.hc_types.specs.FlashEntry.{FlashEntry}
use Rattle.std.specs.Str.{bytes_eq}
use Rattle.hc_engines.specs.Engine.{Op, Put, Get, Delete, Flush, Reclaim, Nothing, Over, Absent, found, changed, Pages, Busy, Answers}
use Rattle.hc_engines.specs.small.Entries.{under, page_put, put_losses}
use Rattle.hc_engines.specs.small.Bloom.{could_have, word_of}
use Rattle.hc_engines.specs.small.BigHash.{BigHash, ToRead, ToEnd, moved, begun, start_at, our_bucket, word_at, is_busy, job_at, key_of}
use Rattle.hc_engines.specs.small.Sound.{CanStart}
use Rattle.hc_engines.specs.small.Held.{StateFits, Keeps, held, bucket_entries, entries_at, StartKeeps, JobsFit, PageFits}
use Rattle.hc_engines.proofs.small.Words.{word_tells}
use Rattle.hc_engines.proofs.small.UnderWay.{none_is_there}
use Rattle.hc_engines.proofs.small.Beginning.{ours_from}
use Rattle.hc_engines.proofs.small.Holding.{bucket_word}
use Rattle.hc_engines.proofs.small.Keeping.{Spare, Mine, keep_read, keep_write, keep_end, nothing-held}

-- a fresh bucket holds nothing
fresh-holds : (s : BigHash) (pages : Pages) (bucket : ℕ) → word_at s bucket ≡ None → bucket_entries s pages bucket ≡ []
fresh-holds s pages bucket w = ap (λ (o : Option ℕ). entries_at s.flash.page o (pages bucket)) w

delete-none : (k key : List ℕ) → None ≡ changed (Delete k) Over key None
delete-none k key = cases (bytes_eq k key) refl
  where
    cases : (t : Bool) → bytes_eq k key ≡ t → None ≡ changed (Delete k) Over key None
    cases true p = rw p refl
    cases false p = rw p refl

-- what isn't told of isn't held
not-told : (word : ℕ) (es : List FlashEntry) (key : List ℕ) (o : Option FlashEntry) → under key es ≡ o → word ≡ word_of es → could_have word key ≡ false → o ≡ None
not-told word es key None p w h = refl
not-told word es key (Some e) p w h =
    let there : is_some (under key es) ≡ true = ap is_some p in
    let told : could_have word key ≡ true = ap (λ (n : ℕ). could_have n key) w ∙ word_tells es key there in
    absurd (cc (told, h))

looks : (s : BigHash) (pages : Pages) (number bucket : ℕ) (key : List ℕ) (word : ℕ) (t : Bool) → could_have word key ≡ t → StateFits s pages → Spare s pages number bucket → Mine s bucket (Get key) → word_at s bucket ≡ Some word
    → Keeps (Get key) s pages (moved s number bucket (Get key) (if t then ToRead else ToEnd Absent)) pages
looks s pages number bucket key word true p fits spare mine w = keep_read s pages number bucket (Get key) fits spare mine (ap is_some w)
looks s pages number bucket key word false p fits spare mine w =
    let page = subst (λ (o : Option ℕ). PageFits s.flash bucket o (pages bucket)) w (fits.pages_fit bucket) in
    let tells : word ≡ word_of (bucket_entries s pages bucket) = bucket_word s.flash bucket word (pages bucket) page ∙ ap (λ (o : Option ℕ). word_of (entries_at s.flash.page o (pages bucket))) (sym w) in
    let none : under key (bucket_entries s pages bucket) ≡ None = not-told word (bucket_entries s pages bucket) key (under key (bucket_entries s pages bucket)) refl tells p in
    let here : held s pages key ≡ None = subst (λ (b : ℕ). under key (bucket_entries s pages b) ≡ None) mine.here none in
    keep_end s pages number bucket (Get key) Absent fits spare mine (λ k. refl) (sym (ap found here))

begins : (s : BigHash) (pages : Pages) (number bucket : ℕ) (op : Op) (word : Option ℕ) → word_at s bucket ≡ word → StateFits s pages → Spare s pages number bucket → Mine s bucket op → Keeps op s pages (moved s number bucket op (begun word op)) pages
begins s pages number bucket (Put e) None w fits spare mine =
    let empty = fresh-holds s pages bucket w in
    keep_write s pages number bucket (Put e) (e ∷ []) [] fits spare mine (sym (ap (page_put s.flash.page e) empty), sym (ap (put_losses s.flash.page e) empty))
begins s pages number bucket (Get key) None w fits spare mine =
    let empty = fresh-holds s pages bucket w in
    let here : held s pages key ≡ None = subst (λ (b : ℕ). under key (bucket_entries s pages b) ≡ None) mine.here (ap (under key) empty) in
    keep_end s pages number bucket (Get key) Absent fits spare mine (λ k. refl) (sym (ap found here))
begins s pages number bucket (Delete k) None w fits spare mine =
    let empty = fresh-holds s pages bucket w in
    keep_end s pages number bucket (Delete k) Over fits spare mine (λ key. ap (under key) empty ∙ delete-none k key ∙ sym (ap (λ (es : List FlashEntry). changed (Delete k) Over key (under key es)) empty)) tt
begins s pages number bucket (Put e) (Some word) w fits spare mine = keep_read s pages number bucket (Put e) fits spare mine (ap is_some w)
begins s pages number bucket (Get key) (Some word) w fits spare mine = looks s pages number bucket key word (could_have word key) refl fits spare mine w
begins s pages number bucket (Delete k) (Some word) w fits spare mine = keep_read s pages number bucket (Delete k) fits spare mine (ap is_some w)
begins s pages number bucket Flush word w fits spare mine = absurd (cc (mine.ours))
begins s pages number bucket Reclaim word w fits spare mine = absurd (cc (mine.ours))

busy-or-not : (s : BigHash) (pages : Pages) (number bucket : ℕ) (op : Op) (t : Bool) → is_busy bucket s.jobs ≡ t → StateFits s pages → job_at number s.jobs ≡ None → Mine s bucket op
    → Keeps op s pages (if t then record { state = s; next = Busy } else moved s number bucket op (begun (word_at s bucket) op)) pages
busy-or-not s pages number bucket op true p fits none mine = record { fits = fits; changes = λ key. refl; known = tt }
busy-or-not s pages number bucket op false p fits none mine =
    let same = none_is_there number s.jobs none in
    let spare : Spare s pages number bucket = record { rest = subst (λ js. JobsFit s.flash (word_at s) pages js) (sym same) fits.jobs_fit; free = ap (is_busy bucket) same ∙ p; gone = ap (job_at number) same ∙ none } in
    begins s pages number bucket op (word_at s bucket) refl fits spare mine

others-answer : (op : Op) (new : List ℕ → Option FlashEntry) (flash : FlashConfig) → our_bucket flash op ≡ None → Answers op Nothing new
others-answer (Put e) new flash h = tt
others-answer (Get key) new flash h = absurd (cc)
others-answer (Delete key) new flash h = tt
others-answer Flush new flash h = tt
others-answer Reclaim new flash h = tt

starts : (s : BigHash) (pages : Pages) (number : ℕ) (op : Op) (o : Option ℕ) → our_bucket s.flash op ≡ o → StateFits s pages → job_at number s.jobs ≡ None → CanStart op → Keeps op s pages (start_at s number op o) pages
starts s pages number op None h fits none can = record { fits = fits; changes = (λ key. nothing-held s.flash op key (held s pages key), others-answer op (held s pages) s.flash h); known = tt }
starts s pages number op (Some bucket) h fits none can =
    let ours = ours_from s.flash op bucket h in
    let within : bucket < s.flash.buckets = subst (λ (b : ℕ). b < s.flash.buckets) (sym ours.1) (let some : 0 < s.flash.buckets = omega (arith, fits.limits.some_bucket) in mod-lt (kept_of s.flash.bits (key_of op)) some) in
    busy-or-not s pages number bucket op (is_busy bucket s.jobs) refl fits none (record { can = can; ours = ours.0; here = ours.1; within = within })

pub start_keeps : StartKeeps
start_keeps s pages number op fits none can = starts s pages number op (our_bucket s.flash op) refl fits none can
