-- What is planned for calls that wait.
use Rattle.std.specs.Prelude.{◌≡◌, ℕ, Bool, List, [], ◌∷◌, Option, Some, None, ⊤}
use Rattle.hc_types.specs.FlashEntry.{FlashEntry}
use Rattle.hc_machine.specs.Nvm.{Waiter, Wish}
use Rattle.hc_machine.specs.Waiting.{live, there_after}
use Rattle.hc_state.specs.wait.Courses.{IsCourse}
use Rattle.hc_state.specs.declared.wait.plan.There.{There}
use Rattle.hc_state.specs.declared.wait.commit.Course.{Course}

-- what a key has, as code holds it
abbrev pub IsThere : {A : Type 0} → Option FlashEntry → Option (There A) → Type 0
IsThere None None = ⊤
IsThere (Some entry) (Some there) = (entry.value ≡ there.value) × (entry.expiry ≡ there.expiry)
IsThere None (Some there) = ⊥
IsThere (Some entry) None = ⊥

-- what a key has once all these calls are served
abbrev pub there_past : ℕ → List Waiter → Option FlashEntry → Option FlashEntry
there_past now [] there = there
there_past now (waiter ∷ waiters) there = there_past now waiters (there_after waiter.wish (live now there))

-- what a call comes to, and what the key has then
pub record IsNext {A : Type 0} (keeps : Bool) (key : List ℕ) (wish : Wish) (given : Option FlashEntry) (course : Course A) (next : Option (There A)) : Type 0 where
  pub course_is : IsCourse keeps key wish given course
  pub there_is : IsThere (there_after wish given) next
