-- Where there is no flash no call waits, so that none is to be served by what the key has.
use Rattle.std.proofs.Common.{◌≡◌, ℕ, Bool, false, List, [], ◌∷◌, Option, Some, None, is_some}
use Rattle.std.specs.Prelude.{Result, Ok, Err, IfOk}
use Rattle.hc_types.specs.FlashEntry.{FlashEntry}
use Rattle.hc_history.specs.Told.{is_log}
use Rattle.hc_machine.specs.Nvm.{Nvm}
use Rattle.hc_state.specs.wait.Courses.{AreCourses}
use Rattle.hc_state.specs.store.Plan.{Clears}
use Rattle.hc_state.specs.wait.Commit.{waiters_at}
use Rattle.hc_state.specs.Whole.{Whole}
use Rattle.hc_state.specs.declared.store.plan.Clearing.{Clearing}
use Rattle.hc_state.specs.declared.wait.commit.Course.{Course}

serves : {A : Type 0} (keeps : Bool) (key : List ℕ) (now : ℕ) (nvm : Option Nvm) (there other : Option FlashEntry) (courses : List (Course A)) → is_some nvm ≡ false
    → AreCourses keeps key now (waiters_at nvm key) there courses → AreCourses keeps key now (waiters_at nvm key) other courses
serves keeps key now None there other [] bare plan = tt
serves keeps key now None there other (course ∷ courses) bare plan = plan
serves keeps key now (Some nvm) there other courses bare plan = absurd (cc)

-- what clears a key that has nothing clears it whatever it has
pub clears-any : {A E : Type 0} (key : List ℕ) (there : Option FlashEntry) (whole : Whole) (result : Result (Clearing A) E) → is_some whole.cache.nvm ≡ false
    → IfOk result (λ plan. Clears key None whole plan) → IfOk result (λ plan. Clears key there whole plan)
clears-any key there whole (Ok plan) bare ok = record {
  outdates = ok.outdates;
  serves = serves (is_log whole.log) key whole.cache.now whole.cache.nvm None there plan.courses.items bare ok.serves;
}
clears-any key there whole (Err e) bare ok = tt
