-- What begins on a bucket.
use Rattle.std.proofs.Common.{◌≡◌, ℕ, ◌<◌, Bool, true, false, List, [], ◌∷◌, ◌++◌, Option, Some, None, refl, sym, arith, ap, ◌∙◌}
use Rattle.std.specs.Prelude.{if◌then◌else◌}
use Rattle.hc_types.specs.declared.config.FlashConfig.{FlashConfig}
use Rattle.hc_types.specs.Places.{bucket_at}
use Rattle.hc_engines.specs.Engine.{Op, Put, Get, Delete, Flush, Reclaim, Absent}
use Rattle.hc_engines.specs.small.Bloom.{could_have}
use Rattle.hc_engines.specs.small.BigHash.{BigHash, Job, Phase, Plan, ToRead, ToEnd, begun, waits, with_job, make_job, without_job, job_at, is_ours, our_bucket, key_of, words_after, next_of, moved, word_at}
use Rattle.hc_engines.specs.Engine.{Next}
use Rattle.hc_engines.specs.small.Sound.{CanStart, AllOurs}
use Rattle.hc_engines.proofs.small.UnderWay.{none_is_there}

words_if : (t : Bool) (words : List (Option ℕ)) (bucket : ℕ) → words_after words bucket (if t then ToRead else ToEnd Absent) ≡ words
words_if true words bucket = refl
words_if false words bucket = refl

pub begun_words : (words : List (Option ℕ)) (bucket : ℕ) (w : Option ℕ) (op : Op) → words_after words bucket (begun w op) ≡ words
begun_words words bucket None (Put e) = refl
begun_words words bucket None (Get key) = refl
begun_words words bucket None (Delete key) = refl
begun_words words bucket None Flush = refl
begun_words words bucket None Reclaim = refl
begun_words words bucket (Some word) (Put e) = refl
begun_words words bucket (Some word) (Get key) = words_if (could_have word key) words bucket
begun_words words bucket (Some word) (Delete key) = refl
begun_words words bucket (Some word) Flush = refl
begun_words words bucket (Some word) Reclaim = refl

ours_if : (t : Bool) (here bucket : ℕ) → (if t then Some here else None) ≡ Some bucket → (t ≡ true) × (bucket ≡ here)
ours_if true here bucket h = (refl, grind (arith, h))
ours_if false here bucket h = absurd (cc)

pub ours_from : (flash : FlashConfig) (op : Op) (bucket : ℕ) → our_bucket flash op ≡ Some bucket → (is_ours flash op ≡ true) × (bucket ≡ bucket_at flash (key_of op))
ours_from flash op bucket h = ours_if (is_ours flash op) (bucket_at flash (key_of op)) bucket h

ours_push : (flash : FlashConfig) (jobs : List Job) (job : Job) → AllOurs flash jobs → CanStart job.op → is_ours flash job.op ≡ true → job.bucket < flash.buckets → AllOurs flash (jobs ++ job ∷ [])
ours_push flash [] job all can ours lt = (can, ours, lt, tt)
ours_push flash (x ∷ jobs) job all can ours lt = (all.0, all.1, all.2, ours_push flash jobs job all.3 can ours lt)

pub ours_with : (flash : FlashConfig) (jobs : List Job) (number bucket : ℕ) (op : Op) (phase : Option Phase) → AllOurs flash jobs → CanStart op → is_ours flash op ≡ true → bucket < flash.buckets
    → AllOurs flash (with_job jobs number bucket op phase)
ours_with flash jobs number bucket op None all can ours lt = all
ours_with flash jobs number bucket op (Some phase) all can ours lt = ours_push flash jobs (make_job number bucket op phase) all can ours lt

-- what the code did is what begins
pub begun_moved : (s : BigHash) (number bucket : ℕ) (op : Op) (w : Option ℕ) (plan : Plan) (jobs : List Job) (next : Next) (phase : Option Phase) → job_at number s.jobs ≡ None → w ≡ word_at s bucket → plan ≡ begun w op
    → next ≡ next_of s.flash.page bucket op plan → phase ≡ waits plan → jobs ≡ with_job s.jobs number bucket op phase
    → moved s number bucket op (begun (word_at s bucket) op) ≡ record { state = record { flash = s.flash; words = s.words; jobs = jobs }; next = next }
begun_moved s number bucket op w plan jobs next phase none here is n p j =
    let planned : begun (word_at s bucket) op ≡ plan = ap (λ (o : Option ℕ). begun o op) (sym here) ∙ sym is in
    let waited : waits (begun (word_at s bucket) op) ≡ phase = ap waits planned ∙ sym p in
    let all : with_job (without_job number s.jobs) number bucket op (waits (begun (word_at s bucket) op)) ≡ jobs = (λ i. with_job (none_is_there number s.jobs none i) number bucket op (waited i)) ∙ sym j in
    let came : next_of s.flash.page bucket op (begun (word_at s bucket) op) ≡ next = ap (next_of s.flash.page bucket op) planned ∙ sym n in
    let kept = begun_words s.words bucket (word_at s bucket) op in
    λ i. record { state = record { flash = s.flash; words = kept i; jobs = all i }; next = came i }
