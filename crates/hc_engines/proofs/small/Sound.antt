-- What no result takes from BigHash, honest or not.
use Rattle.std.proofs.Common.{◌≡◌, ℕ, ◌<◌, ◌==◌, Bool, true, false, List, [], ◌∷◌, Option, Some, None, refl, sym, ap, ◌∙◌, subst, arith, length, length-set, nat_lt, get_or-set_same}
use Rattle.std.specs.Prelude.{if◌then◌else◌, set, slice_index_or}
use Rattle.std.proofs.Math.Nat.{mod-lt}
use Rattle.std.proofs.lemmas.List.{get_or_past}
use Rattle.hc_types.specs.declared.config.FlashConfig.{FlashConfig}
use Rattle.hc_types.specs.FlashEntry.{FlashEntry}
use Rattle.hc_types.specs.Places.{kept_of}
use Rattle.hc_bucket.proofs.Numbers.{some_is}
use Rattle.hc_engines.specs.Engine.{Op, IoResult, Page, Busy}
use Rattle.hc_engines.specs.small.BigHash.{BigHash, Job, Phase, Plan, ToRead, ToWrite, ToEnd, ToKeep, ToGiveUp, Moved, moved, begun, start_at, our_bucket, word_at, is_busy, job_at, without_job, key_of, is_ours, words_after, waits, read_as, resumed, resume_job, went_on}
use Rattle.hc_engines.specs.small.Sound.{AllOurs, CanStart, IsSound, StartIsSound, ResumeIsSound, NoPageGivesUp}
use Rattle.hc_engines.proofs.small.Beginning.{ours_from, ours_with}

ours_without : (flash : FlashConfig) (number : ℕ) (jobs : List Job) → AllOurs flash jobs → AllOurs flash (without_job number jobs)
ours_without flash number [] all = tt
ours_without flash number (job ∷ jobs) all = step (job.number == number) (ours_without flash number jobs all.3)
  where
    step : (t : Bool) → AllOurs flash (without_job number jobs) → AllOurs flash (if t then jobs else job ∷ without_job number jobs)
    step true rest = all.3
    step false rest = (all.0, all.1, all.2, rest)

as_many_words : (words : List (Option ℕ)) (bucket : ℕ) (plan : Plan) → length (words_after words bucket plan) ≡ length words
as_many_words words bucket ToRead = refl
as_many_words words bucket (ToWrite es losses) = refl
as_many_words words bucket (ToEnd answer) = refl
as_many_words words bucket (ToKeep word losses) = length-set words bucket (Some word)
as_many_words words bucket ToGiveUp = length-set words bucket None

pub moved_is_sound : (s : BigHash) (number bucket : ℕ) (op : Op) (plan : Plan) → IsSound s → CanStart op → is_ours s.flash op ≡ true → bucket < s.flash.buckets → IsSound (moved s number bucket op plan).state
moved_is_sound s number bucket op plan sound can ours lt = record {
  limits = sound.limits;
  buckets = as_many_words s.words bucket plan ∙ sound.buckets;
  ours = ours_with s.flash (without_job number s.jobs) number bucket op (waits plan) (ours_without s.flash number s.jobs sound.ours) can ours lt;
}

started : (s : BigHash) (number : ℕ) (op : Op) (o : Option ℕ) → our_bucket s.flash op ≡ o → IsSound s → CanStart op → IsSound (start_at s number op o).state
started s number op None h sound can = sound
started s number op (Some bucket) h sound can = cases (is_busy bucket s.jobs)
  where
    cases : (t : Bool) → IsSound (if t then record { state = s; next = Busy } else moved s number bucket op (begun (word_at s bucket) op)).state
    cases true = sound
    cases false =
        let ours = ours_from s.flash op bucket h in
        let some : 0 < s.flash.buckets = omega (arith, sound.limits.some_bucket) in
        let within : bucket < s.flash.buckets = subst (λ (b : ℕ). b < s.flash.buckets) (sym ours.1) (mod-lt (kept_of s.flash.bits (key_of op)) some) in
        moved_is_sound s number bucket op (begun (word_at s bucket) op) sound can ours.0 within

pub start_is_sound : StartIsSound
start_is_sound s number op sound can = started s number op (our_bucket s.flash op) refl sound can

pub ours_at : (flash : FlashConfig) (number : ℕ) (jobs : List Job) (job : Job) → AllOurs flash jobs → job_at number jobs ≡ Some job → CanStart job.op × (is_ours flash job.op ≡ true) × (job.bucket < flash.buckets)
ours_at flash number [] job all at = absurd cc
ours_at flash number (x ∷ jobs) job all at = cases (x.number == number) refl (ours_at flash number jobs job all.3)
  where
    cases : (t : Bool) → (x.number == number) ≡ t → (job_at number jobs ≡ Some job → CanStart job.op × (is_ours flash job.op ≡ true) × (job.bucket < flash.buckets)) → CanStart job.op × (is_ours flash job.op ≡ true) × (job.bucket < flash.buckets)
    cases true p rest = let same : x ≡ job = some_is x job (rw p at at) in subst (λ (j : Job). CanStart j.op × (is_ours flash j.op ≡ true) × (j.bucket < flash.buckets)) same (all.0, all.1, all.2)
    cases false p rest = rest (rw p at at)

went_sound : (s : BigHash) (job : Job) (o : Option Plan) (m : Moved) → IsSound s → CanStart job.op → is_ours s.flash job.op ≡ true → job.bucket < s.flash.buckets → resumed s job o ≡ Some m → IsSound m.state
went_sound s job None m sound can ours lt came = absurd cc
went_sound s job (Some plan) m sound can ours lt came = subst (λ (x : Moved). IsSound x.state) (some_is _ _ came) (moved_is_sound s job.number job.bucket job.op plan sound can ours lt)

handed : (s : BigHash) (number : ℕ) (result : IoResult) (o : Option Job) (m : Moved) → job_at number s.jobs ≡ o → IsSound s → resume_job s o result ≡ Some m → IsSound m.state
handed s number result None m at sound came = absurd cc
handed s number result (Some job) m at sound came =
    let h = ours_at s.flash number s.jobs job sound.ours at in
    went_sound s job (went_on s.flash.page job.op job.phase result) m sound h.0 h.1 h.2 came

pub resume_is_sound : ResumeIsSound
resume_is_sound s number result m sound came = handed s number result (job_at number s.jobs) m refl sound came

-- ---- bytes that are no page

is_fresh : (words : List (Option ℕ)) (bucket : ℕ) (t : Bool) → nat_lt bucket (length words) ≡ t → slice_index_or (set words bucket None) bucket None ≡ None
is_fresh words bucket true lt = get_or-set_same words bucket None None (grind (arith, lt))
is_fresh words bucket false le = get_or_past (set words bucket None) bucket None (grind (arith, le, length-set words bucket None))

pub no_page_gives_up : NoPageGivesUp
no_page_gives_up s number job bytes at reading none = (
  moved s job.number job.bucket job.op ToGiveUp,
  ap (λ (o : Option Job). resume_job s o (Page bytes)) at
      ∙ ap (λ (phase : Phase). resumed s job (went_on s.flash.page job.op phase (Page bytes))) reading
      ∙ ap (λ (o : Option (List FlashEntry)). resumed s job (Some (read_as s.flash.page job.op o))) none,
  record { word = is_fresh s.words job.bucket (nat_lt job.bucket (length s.words)) refl; next = refl },
)
