-- What a get answers with a result that isn't handed in yet, and how it is over with it.
use Rattle.std.proofs.Common.{◌≡◌, ℕ, true, false, List, Option, Some, None, refl, sym, ap, ◌∙◌}
use Rattle.std.specs.Prelude.{option_map}
use Rattle.hc_engines.specs.Engine.{Op, Put, Get, Delete, Flush, Reclaim, IoResult}
use Rattle.hc_engines.specs.small.BigHash.{BigHash, Job, Plan, ToRead, ToWrite, ToEnd, ToKeep, ToGiveUp, Moved, moved, went_on, place_of, resume, resume_job}
use Rattle.hc_bighash.specs.Found.{answer_next, get_answer, is_get, plan_answer, planned_answer}
use Rattle.hc_bighash.specs.Handed.{op_in}
use Rattle.hc_bighash.specs.declared.endings.Ending.{Ending}
use Rattle.hc_bighash.specs.Endings.{is_over, ending_plan, IsPlanned, IsEnding}
use Rattle.hc_bighash.proofs.Places.{At, place_none}
use Rattle.hc_bighash.proofs.Handing.{go_is, get_there}

-- nothing has the number
pub none_answers : (s : BigHash) (number : ℕ) (came : IoResult) → place_of number s.jobs ≡ None → None ≡ get_answer (op_in number s.jobs) (resume s number came)
none_answers s number came none = sym (ap (λ (o : Option Job). get_answer (option_map (λ (j : Job). j.op) o) (resume s number came)) (place_none number s.jobs none))

-- what has it is no get
no-get : (op : Op) (m : Option Moved) → is_get op ≡ false → None ≡ get_answer (Some op) m
no-get (Get key) m h = absurd cc
no-get (Put e) m h = refl
no-get (Delete key) m h = refl
no-get Flush m h = refl
no-get Reclaim m h = refl

pub other_answers : (s : BigHash) (number at : ℕ) (job : Job) (came : IoResult) → At number at s.jobs job → is_get job.op ≡ false → None ≡ get_answer (op_in number s.jobs) (resume s number came)
other_answers s number at job came here other = no-get job.op (resume s number came) other ∙ sym (ap (λ (o : Option Job). get_answer (option_map (λ (j : Job). j.op) o) (resume s number came)) here.there)

-- a get by its plan
by-plan : (s : BigHash) (number bucket : ℕ) (key : List ℕ) (plan : Plan) → plan_answer plan ≡ answer_next (moved s number bucket (Get key) plan).next
by-plan s number bucket key ToRead = refl
by-plan s number bucket key (ToWrite es losses) = refl
by-plan s number bucket key (ToEnd answer) = refl
by-plan s number bucket key (ToKeep word losses) = refl
by-plan s number bucket key ToGiveUp = refl

by-planned : (s : BigHash) (number bucket : ℕ) (op : Op) (planned : Option Plan) → is_get op ≡ true → planned_answer planned ≡ get_answer (Some op) (option_map (moved s number bucket op) planned)
by-planned s number bucket (Get key) None h = refl
by-planned s number bucket (Get key) (Some plan) h = by-plan s number bucket key plan
by-planned s number bucket (Put e) planned h = absurd cc
by-planned s number bucket (Delete key) planned h = absurd cc
by-planned s number bucket Flush planned h = absurd cc
by-planned s number bucket Reclaim planned h = absurd cc

pub get_answers : (s : BigHash) (number at : ℕ) (job : Job) (came : IoResult) → At number at s.jobs job → is_get job.op ≡ true
    → planned_answer (went_on s.flash.page job.op job.phase came) ≡ get_answer (op_in number s.jobs) (resume s number came)
get_answers s number at job came here gets =
    by-planned s job.number job.bucket job.op (went_on s.flash.page job.op job.phase came) gets
    ∙ sym (ap (λ (o : Option Job). get_answer (option_map (λ (j : Job). j.op) o) (resume_job s o came)) here.there)

-- ---- how a get is over

pub none_ends : (s : BigHash) (number : ℕ) (came : IoResult) → place_of number s.jobs ≡ None → is_over (get_answer (op_in number s.jobs) (resume s number came)) ≡ false
none_ends s number came none = sym (ap is_over (none_answers s number came none))

pub other_ends : (s : BigHash) (number at : ℕ) (job : Job) (came : IoResult) → At number at s.jobs job → is_get job.op ≡ false → is_over (get_answer (op_in number s.jobs) (resume s number came)) ≡ false
other_ends s number at job came here other = sym (ap is_over (other_answers s number at job came here other))

the-get : (op : Op) → is_get op ≡ true → (key : List ℕ) × (op ≡ Get key)
the-get (Get key) h = (key, refl)
the-get (Put e) h = absurd cc
the-get (Delete key) h = absurd cc
the-get Flush h = absurd cc
the-get Reclaim h = absurd cc

pub planned_ends : {A : Type 0} (s : BigHash) (number at : ℕ) (job : Job) (came : IoResult) (ending : Option (Ending A)) → At number at s.jobs job → is_get job.op ≡ true
    → IsPlanned (went_on s.flash.page job.op job.phase came) ending → IsEnding s number (resume s number came) ending
planned_ends s number at job came None here gets h = sym (ap is_over (get_answers s number at job came here gets)) ∙ h
planned_ends s number at job came (Some ending) here gets h =
    let key = the-get job.op gets in
    (get_there s number at job key.0 here key.1, go_is s number at job came (ending_plan ending) here h)
