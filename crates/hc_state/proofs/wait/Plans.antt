-- One call more is planned for, behind the others.
use Rattle.std.proofs.Common.{◌≡◌, ℕ, ◌+◌, ◌<◌, ◌≤◌, Bool, List, [], ◌∷◌, ◌++◌, length, take, get_or, Option, add-one, refl, sym, ap, ◌∙◌, subst}
use Rattle.std.proofs.Math.Seq.{take-suc}
use Rattle.std.proofs.lemmas.List.{take_all}
use Rattle.hc_types.specs.FlashEntry.{FlashEntry}
use Rattle.hc_machine.specs.Nvm.{Waiter}
use Rattle.hc_machine.specs.Waiting.{live, there_after}
use Rattle.hc_state.specs.wait.Courses.{IsCourse, AreCourses}
use Rattle.hc_state.specs.wait.Plan.{IsThere, IsNext, there_past}
use Rattle.hc_state.specs.declared.wait.plan.There.{There}
use Rattle.hc_state.specs.declared.wait.commit.Course.{Course}

pub courses-more : {A : Type 0} (keeps : Bool) (key : List ℕ) (now : ℕ) (waiters : List Waiter) (there : Option FlashEntry) (courses : List (Course A)) (w : Waiter) (c : Course A) → AreCourses keeps key now waiters there courses → IsCourse keeps key w.wish (live now (there_past now waiters there)) c → AreCourses keeps key now (waiters ++ w ∷ []) there (courses ++ c ∷ [])
courses-more keeps key now [] there [] w c h next = (next, tt)
courses-more keeps key now [] there (x ∷ courses) w c h next = absurd h
courses-more keeps key now (v ∷ waiters) there [] w c h next = absurd h
courses-more keeps key now (v ∷ waiters) there (x ∷ courses) w c h next = (h.0, courses-more keeps key now waiters (there_after v.wish (live now there)) courses w c h.1 next)

pub past-more : (now : ℕ) (waiters : List Waiter) (there : Option FlashEntry) (w : Waiter) → there_past now (waiters ++ w ∷ []) there ≡ there_after w.wish (live now (there_past now waiters there))
past-more now [] there w = refl
past-more now (v ∷ waiters) there w = past-more now waiters (there_after v.wish (live now there)) w

-- ---- a loop over the calls

-- the calls that a loop has passed, and the one at its place
taken-more : (waiters : List Waiter) (i : ℕ) (w : Waiter) → i < length waiters → w ≡ get_or waiters i w → take (i + 1) waiters ≡ take i waiters ++ w ∷ []
taken-more waiters i w h at =
    let more : take (i + 1) waiters ≡ take i waiters ++ get_or waiters i w ∷ [] = rw add-one (take-suc waiters i w h) in
    more ∙ ap (λ (x : Waiter). take i waiters ++ x ∷ []) (sym at)

pub courses-next : {A : Type 0} (keeps : Bool) (key : List ℕ) (now : ℕ) (waiters : List Waiter) (i : ℕ) (w : Waiter) (there : Option FlashEntry) (courses new : List (Course A)) (c : Course A) (next : Option (There A))
    → i < length waiters → w ≡ get_or waiters i w → new ≡ courses ++ c ∷ [] → AreCourses keeps key now (take i waiters) there courses
    → IsNext keeps key w.wish (live now (there_past now (take i waiters) there)) c next → AreCourses keeps key now (take (i + 1) waiters) there new
courses-next keeps key now waiters i w there courses new c next h at is plan step =
    let more : AreCourses keeps key now (take i waiters ++ w ∷ []) there (courses ++ c ∷ []) = courses-more keeps key now (take i waiters) there courses w c plan step.course_is in
    subst (λ (ws : List Waiter). AreCourses keeps key now ws there new) (sym (taken-more waiters i w h at))
    (subst (λ (cs : List (Course _)). AreCourses keeps key now (take i waiters ++ w ∷ []) there cs) (sym is) more)

pub there-next : {A : Type 0} (keeps : Bool) (key : List ℕ) (now : ℕ) (waiters : List Waiter) (i : ℕ) (w : Waiter) (there : Option FlashEntry) (c : Course A) (next : Option (There A))
    → i < length waiters → w ≡ get_or waiters i w
    → IsNext keeps key w.wish (live now (there_past now (take i waiters) there)) c next → IsThere (there_past now (take (i + 1) waiters) there) next
there-next keeps key now waiters i w there c next h at step =
    subst (λ (ws : List Waiter). IsThere (there_past now ws there) next) (sym (taken-more waiters i w h at))
    (subst (λ (e : Option FlashEntry). IsThere e next) (sym (past-more now (take i waiters) there w)) step.there_is)

pub courses-whole : {A : Type 0} (keeps : Bool) (key : List ℕ) (now : ℕ) (waiters : List Waiter) (i : ℕ) (there : Option FlashEntry) (courses : List (Course A)) → length waiters ≤ i → AreCourses keeps key now (take i waiters) there courses → AreCourses keeps key now waiters there courses
courses-whole keeps key now waiters i there courses h plan = subst (λ (ws : List Waiter). AreCourses keeps key now ws there courses) (take_all i waiters h) plan
