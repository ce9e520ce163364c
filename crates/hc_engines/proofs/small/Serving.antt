-- What is under way in BigHash waits for its result, and each key that is held is told.
use Rattle.std.proofs.Common.{◌≡◌, ◌≢◌, ℕ, true, List, Option, Some, None, refl, ap, ◌∙◌}
use Rattle.std.specs.Prelude.{is_some, option_map}
use Rattle.hc_types.specs.declared.config.FlashConfig.{FlashConfig}
use Rattle.hc_types.specs.Places.{bucket_at}
use Rattle.hc_types.specs.FlashEntry.{FlashEntry}
use Rattle.hc_engines.specs.Engine.{IoResult, Page, Written, Failed, Suits, Awaits, Op}
use Rattle.hc_engines.specs.small.Bloom.{could_have}
use Rattle.hc_engines.specs.small.Entries.{under}
use Rattle.hc_engines.specs.small.BigHash.{BigHash, Job, Moved, job_at, word_at, Phase, Reading, Writing, Plan, went_on, resumed, resume_job, resume, tells}
use Rattle.hc_engines.specs.small.Held.{entries_at, PageFits, order_of, under_way, job_under_way, HeldIsTold}
use Rattle.hc_engines.proofs.small.Words.{word_tells}
use Rattle.hc_engines.proofs.small.Holding.{bucket_word}

pub none_under : (flash : FlashConfig) (o : Option Job) → option_map (job_under_way flash) o ≡ None → o ≡ None
none_under flash None h = refl
none_under flash (Some job) h = absurd (cc)

some_of : (o : Option FlashEntry) → o ≢ None → is_some o ≡ true
some_of None h = absurd (h refl)
some_of (Some e) h = refl

told : (flash : FlashConfig) (bucket : ℕ) (word : Option ℕ) (page : Option (List ℕ)) (key : List ℕ) → PageFits flash bucket word page → under key (entries_at flash.page word page) ≢ None → tells word key ≡ true
told flash bucket None page key fits h = absurd (h refl)
told flash bucket (Some word) page key fits h =
    ap (λ (n : ℕ). could_have n key) (bucket_word flash bucket word page fits) ∙ word_tells (entries_at flash.page (Some word) page) key (some_of (under key (entries_at flash.page (Some word) page)) h)

pub held_is_told : HeldIsTold
held_is_told s pages key fits h = told s.flash (bucket_at s.flash key) (word_at s (bucket_at s.flash key)) (pages (bucket_at s.flash key)) key (fits.pages_fit (bucket_at s.flash key)) h

-- ---- resume

went-awaits : (size bucket : ℕ) (op : Op) (phase : Phase) (result : IoResult) (plan : Plan) → went_on size op phase result ≡ Some plan → Suits (order_of size bucket phase) result
went-awaits size bucket op Reading (Page bytes) plan h = tt
went-awaits size bucket op Reading Written plan h = absurd (cc)
went-awaits size bucket op Reading Failed plan h = tt
went-awaits size bucket op (Writing es losses) (Page bytes) plan h = absurd (cc)
went-awaits size bucket op (Writing es losses) Written plan h = tt
went-awaits size bucket op (Writing es losses) Failed plan h = tt

went-not : (size bucket : ℕ) (op : Op) (phase : Phase) (result : IoResult) → went_on size op phase result ≡ None → Suits (order_of size bucket phase) result → ⊥
went-not size bucket op Reading (Page bytes) h suits = cc
went-not size bucket op Reading Written h suits = suits
went-not size bucket op Reading Failed h suits = cc
went-not size bucket op (Writing es losses) (Page bytes) h suits = suits
went-not size bucket op (Writing es losses) Written h suits = cc
went-not size bucket op (Writing es losses) Failed h suits = cc

resumed-awaits : (s : BigHash) (job : Job) (o : Option Plan) (result : IoResult) (m : Moved) → went_on s.flash.page job.op job.phase result ≡ o → resumed s job o ≡ Some m → Suits (order_of s.flash.page job.bucket job.phase) result
resumed-awaits s job None result m p h = absurd (cc)
resumed-awaits s job (Some plan) result m p h = went-awaits s.flash.page job.bucket job.op job.phase result plan p

resumed-not : (s : BigHash) (job : Job) (o : Option Plan) (result : IoResult) → went_on s.flash.page job.op job.phase result ≡ o → resumed s job o ≡ None → Suits (order_of s.flash.page job.bucket job.phase) result → ⊥
resumed-not s job None result p h suits = went-not s.flash.page job.bucket job.op job.phase result p suits
resumed-not s job (Some plan) result p h suits = cc

awaits : (s : BigHash) (o : Option Job) (result : IoResult) (m : Moved) → resume_job s o result ≡ Some m → Awaits (option_map (job_under_way s.flash) o) result
awaits s None result m h = absurd (cc)
awaits s (Some job) result m h = resumed-awaits s job (went_on s.flash.page job.op job.phase result) result m refl h

awaits-not : (s : BigHash) (o : Option Job) (result : IoResult) → resume_job s o result ≡ None → Awaits (option_map (job_under_way s.flash) o) result → ⊥
awaits-not s None result h a = a
awaits-not s (Some job) result h a = resumed-not s job (went_on s.flash.page job.op job.phase result) result refl h a

pub resume_is : (s : BigHash) (number : ℕ) (result : IoResult) (m : Moved) → resume s number result ≡ Some m → Awaits (under_way s number) result
resume_is s number result m h = awaits s (job_at number s.jobs) result m h

pub resume_not : (s : BigHash) (number : ℕ) (result : IoResult) → resume s number result ≡ None → Awaits (under_way s number) result → ⊥
resume_not s number result h = awaits-not s (job_at number s.jobs) result h
