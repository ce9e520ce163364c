-- A result is handed in, as the code does it.
use Rattle.std.proofs.Common.{◌≡◌, ℕ, ◌<◌, Bool, true, false, List, Option, Some, None, refl, sym, arith, ap, ◌∙◌, subst, length, set}
use Rattle.std.specs.Prelude.{if◌then◌else◌, IsSome, option_map}
use Rattle.std.specs.List.{remove}
use Rattle.hc_engines.specs.Engine.{Op, Put, Get, Delete, Flush, Reclaim, Nothing, Over, Absent, Found, IoResult, Next, Loss}
use Rattle.hc_engines.specs.small.BigHash.{BigHash, Job, Phase, Reading, Writing, Plan, ToRead, ToWrite, ToEnd, ToKeep, ToGiveUp, Moved, moved, with_job, waits, went_on, job_at, carried, kept_as, kept_job, words_after, is_given_up, next_of, resume, resume_job, resumed}
use Rattle.hc_engines.specs.small.Sound.{IsSound, HasRoom, CanPut}
use Rattle.hc_engines.proofs.small.Sound.{ours_at, moved_is_sound}
use Rattle.hc_bighash.specs.declared.plans.Plan.{Plan as Plans}
use Rattle.hc_bighash.specs.declared.plans.Plan.TheVariants as plans
use Rattle.hc_bighash.specs.Steps.{plan_of, IsKept}
use Rattle.hc_bighash.specs.Handed.{ends_absent, absent_plan, is_absent, IsGet}
use Rattle.hc_bighash.proofs.Places.{At}
use Rattle.hc_bighash.proofs.Reading.{has_room, can_put}

-- ---- what the job at a place has

pub room_there : (s : BigHash) (number at : ℕ) (job : Job) → IsSound s → At number at s.jobs job → HasRoom s.flash.page job.op
room_there s number at job sound here = let ours = ours_at s.flash number s.jobs job sound.ours here.there in has_room s.flash job.op sound.limits ours.0 ours.1

pub put_there : (s : BigHash) (number at : ℕ) (job : Job) → IsSound s → At number at s.jobs job → CanPut job.op
put_there s number at job sound here = let ours = ours_at s.flash number s.jobs job sound.ours here.there in can_put s.flash job.op sound.limits ours.0 ours.1

pub within_there : (s : BigHash) (number at : ℕ) (job : Job) → IsSound s → At number at s.jobs job → job.bucket < length s.words
within_there s number at job sound here = let ours = ours_at s.flash number s.jobs job sound.ours here.there in omega (arith, ours.2, sound.buckets)

-- ---- what the code made

-- the code has these words and these jobs, and answers this, as the plan for this job has it
pub record Made (s : BigHash) (at : ℕ) (job : Job) (plan : Plan) (words : List (Option ℕ)) (jobs : List Job) (next : Next) : Type 0 where
  pub next_is : next ≡ next_of s.flash.page job.bucket job.op plan
  pub jobs_are : jobs ≡ with_job (remove s.jobs at) job.number job.bucket job.op (waits plan)
  pub words_are : words ≡ words_after s.words job.bucket plan

abbrev after : BigHash → List (Option ℕ) → List Job → BigHash
after s words jobs = record { flash = s.flash; words = words; jobs = jobs }

made_moved : (s : BigHash) (number at : ℕ) (job : Job) (plan : Plan) (words : List (Option ℕ)) (jobs : List Job) (next : Next) → At number at s.jobs job → Made s at job plan words jobs next
    → moved s job.number job.bucket job.op plan ≡ record { state = after s words jobs; next = next }
made_moved s number at job plan words jobs next here made =
    let all : with_job _ job.number job.bucket job.op (waits plan) ≡ jobs = ap (λ js. with_job js job.number job.bucket job.op (waits plan)) here.left ∙ sym made.jobs_are in
    λ i. record { state = record { flash = s.flash; words = sym made.words_are i; jobs = all i }; next = sym made.next_is i }

pub made_sound : (s : BigHash) (number at : ℕ) (job : Job) (plan : Plan) (words : List (Option ℕ)) (jobs : List Job) (next : Next) → IsSound s → At number at s.jobs job → Made s at job plan words jobs next → IsSound (after s words jobs)
made_sound s number at job plan words jobs next sound here made =
    let ours = ours_at s.flash number s.jobs job sound.ours here.there in
    subst (λ (m : Moved). IsSound m.state) (made_moved s number at job plan words jobs next here made) (moved_is_sound s job.number job.bucket job.op plan sound ours.0 ours.1 ours.2)

pub made_carried : (s : BigHash) (number at : ℕ) (job : Job) (plan : Plan) (words : List (Option ℕ)) (jobs : List Job) (next : Next) → At number at s.jobs job → Made s at job plan words jobs next
    → carried s number plan ≡ Some (record { state = after s words jobs; next = next })
made_carried s number at job plan words jobs next here made =
    ap (λ (o : Option Job). option_map (λ x. moved s x.number x.bucket x.op plan) o) here.there ∙ ap (λ (m : Moved). Some m) (made_moved s number at job plan words jobs next here made)

pub made_kept : (s : BigHash) (number at : ℕ) (job : Job) (word : ℕ) (losses : List Loss) (words : List (Option ℕ)) (jobs : List Job) (next : Next) → At number at s.jobs job → kept_as job.phase ≡ Some (ToKeep word losses)
    → Made s at job (ToKeep word losses) words jobs next → kept_job s (job_at number s.jobs) ≡ Some (record { state = after s words jobs; next = next })
made_kept s number at job word losses words jobs next here kept made =
    ap (kept_job s) here.there ∙ ap (resumed s job) kept ∙ ap (λ (m : Moved). Some m) (made_moved s number at job (ToKeep word losses) words jobs next here made)

pub settled : {A : Type 0} (p : Plans A) (words : List (Option ℕ)) (bucket : ℕ) → (if is_given_up (plan_of p) then set words bucket None else words) ≡ words_after words bucket (plan_of p)
settled plans.Read words bucket = refl
settled (plans.Write es losses) words bucket = refl
settled (plans.End answer) words bucket = refl
settled plans.GiveUp words bucket = refl

-- ---- what a turn means

pub go_is : (s : BigHash) (number at : ℕ) (job : Job) (came : IoResult) (plan : Plan) → At number at s.jobs job → went_on s.flash.page job.op job.phase came ≡ Some plan → resume s number came ≡ carried s number plan
go_is s number at job came plan here went =
    ap (λ (o : Option Job). resume_job s o came) here.there ∙ ap (resumed s job) went ∙ sym (ap (λ (o : Option Job). option_map (λ x. moved s x.number x.bucket x.op plan) o) here.there)

some-resumed : (s : BigHash) (job : Job) (o : Option Plan) → IsSome o → IsSome (resumed s job o)
some-resumed s job None h = h
some-resumed s job (Some plan) h = h

pub goes_some : (s : BigHash) (number at : ℕ) (job : Job) (came : IoResult) → At number at s.jobs job → IsSome (went_on s.flash.page job.op job.phase came) → IsSome (resume s number came)
goes_some s number at job came here some = subst (λ (o : Option Job). IsSome (resume_job s o came)) (sym here.there) (some-resumed s job (went_on s.flash.page job.op job.phase came) some)

pub unknown_is : (s : BigHash) (number at : ℕ) (job : Job) (came : IoResult) → At number at s.jobs job → went_on s.flash.page job.op job.phase came ≡ None → resume s number came ≡ None
unknown_is s number at job came here went = ap (λ (o : Option Job). resume_job s o came) here.there ∙ ap (resumed s job) went

kept-as : (phase : Phase) (o : Option Plan) → IsKept phase o → (o ≡ kept_as phase) × IsSome (kept_as phase)
kept-as Reading o h = absurd h
kept-as (Writing es losses) o h = (h, refl)

pub keep_is : (s : BigHash) (number at : ℕ) (job : Job) (came : IoResult) → At number at s.jobs job → IsKept job.phase (went_on s.flash.page job.op job.phase came) → resume s number came ≡ kept_job s (job_at number s.jobs)
keep_is s number at job came here kept =
    ap (λ (o : Option Job). resume_job s o came) here.there ∙ ap (resumed s job) (kept-as job.phase (went_on s.flash.page job.op job.phase came) kept).0 ∙ sym (ap (kept_job s) here.there)

pub keep_some : (s : BigHash) (number at : ℕ) (job : Job) (came : IoResult) → At number at s.jobs job → IsKept job.phase (went_on s.flash.page job.op job.phase came) → IsSome (kept_job s (job_at number s.jobs))
keep_some s number at job came here kept =
    subst (λ (o : Option Job). IsSome (kept_job s o)) (sym here.there) (some-resumed s job (kept_as job.phase) (kept-as job.phase (went_on s.flash.page job.op job.phase came) kept).1)

-- from a finished keep back to the phase
pub phase_kept : (s : BigHash) (number at : ℕ) (job : Job) → At number at s.jobs job → IsSome (kept_job s (job_at number s.jobs)) → IsSome (kept_as job.phase)
phase_kept s number at job here kept = back (kept_as job.phase) (subst (λ (o : Option Job). IsSome (kept_job s o)) here.there kept)
  where
    back : (o : Option Plan) → IsSome (resumed s job o) → IsSome o
    back None h = h
    back (Some plan) h = h

-- ---- a get that found nothing

pub ends_get : (op : Op) (plan : Plan) (gives_up : Bool) → ends_absent op plan ≡ Some gives_up → ((key : List ℕ) × (op ≡ Get key)) × (plan ≡ absent_plan gives_up)
ends_get (Get key) (ToEnd Absent) false h = ((key, refl), refl)
ends_get (Get key) ToGiveUp true h = ((key, refl), refl)
ends_get (Get key) (ToEnd Absent) true h = absurd cc
ends_get (Get key) ToGiveUp false h = absurd cc
ends_get (Get key) (ToEnd Nothing) g h = absurd cc
ends_get (Get key) (ToEnd Over) g h = absurd cc
ends_get (Get key) (ToEnd (Found e)) g h = absurd cc
ends_get (Get key) ToRead g h = absurd cc
ends_get (Get key) (ToWrite es losses) g h = absurd cc
ends_get (Get key) (ToKeep word losses) g h = absurd cc
ends_get (Put e) plan g h = absurd cc
ends_get (Delete key) plan g h = absurd cc
ends_get Flush plan g h = absurd cc
ends_get Reclaim plan g h = absurd cc

-- a get stands there
pub get_there : (s : BigHash) (number at : ℕ) (job : Job) (key : List ℕ) → At number at s.jobs job → job.op ≡ Get key → IsGet s number
get_there s number at job key here gets = (key, ap (option_map (λ (j : Job). j.op)) here.there ∙ ap (λ (o : Op). Some o) gets)

pub absent_words : (gives_up : Bool) (words : List (Option ℕ)) (bucket : ℕ) → (if gives_up then set words bucket None else words) ≡ words_after words bucket (absent_plan gives_up)
absent_words true words bucket = refl
absent_words false words bucket = refl

pub absent_waits : (gives_up : Bool) → waits (absent_plan gives_up) ≡ None
absent_waits true = refl
absent_waits false = refl

-- a plan that doesn't end so finds something, goes on, or is of no get
pub no_miss : (size bucket : ℕ) (op : Op) (plan : Plan) (key : List ℕ) → ends_absent op plan ≡ None → op ≡ Get key → is_absent (next_of size bucket op plan) ≡ false
no_miss size bucket (Get k) ToRead key h e = refl
no_miss size bucket (Get k) (ToWrite es losses) key h e = refl
no_miss size bucket (Get k) (ToEnd Nothing) key h e = refl
no_miss size bucket (Get k) (ToEnd Over) key h e = refl
no_miss size bucket (Get k) (ToEnd Absent) key h e = absurd cc
no_miss size bucket (Get k) (ToEnd (Found entry)) key h e = refl
no_miss size bucket (Get k) (ToKeep word losses) key h e = refl
no_miss size bucket (Get k) ToGiveUp key h e = absurd cc
no_miss size bucket (Put entry) plan key h e = absurd cc
no_miss size bucket (Delete k) plan key h e = absurd cc
no_miss size bucket Flush plan key h e = absurd cc
no_miss size bucket Reclaim plan key h e = absurd cc
