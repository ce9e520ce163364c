-- By a plan the calls that wait are served as the machine serves them.
use Rattle.std.proofs.Common.{◌≡◌, ℕ, Bool, List, [], ◌∷◌, Option, Some, None, refl, sym, ap, ◌∙◌, subst}
use Rattle.hc_types.specs.FlashEntry.{FlashEntry}
use Rattle.hc_memory.specs.Memory.{Memory}
use Rattle.hc_machine.specs.Nvm.{Waiter, Wish, ToFind, ToAdd}
use Rattle.hc_machine.specs.Cache.{Cache, Told, and_then, behind}
use Rattle.hc_machine.specs.Waiting.{live, there_after, answer}
use Rattle.hc_invariant.specs.Jobs.{AllWish, WishHolds}
use Rattle.hc_state.specs.wait.Commit.{served_by, stands_after, all_served}
use Rattle.hc_state.specs.Whole.{Whole, Costs, Does}
use Rattle.hc_state.specs.wait.Courses.{IsCourse, AreCourses, Fits, AllFit, served_as, standing_as, all_served_as}
use Rattle.hc_state.specs.declared.wait.commit.Course.{Course}
use Rattle.hc_state.specs.declared.wait.commit.Course.TheVariants.{Find, Exists, Store}
use Rattle.hc_state.proofs.wait.Serves.{served_now}

served_course : {A : Type 0} (keeps : Bool) (key : List ℕ) (call : ℕ) (wish : Wish) (there : Option FlashEntry) (course : Course A) (standing : Option ℕ) (cache : Cache) → IsCourse keeps key wish there course → served_as call wish course standing cache ≡ served_by call wish there standing cache
served_course keeps key call ToFind there (Find told reply) standing cache h = ap (λ r. answer call r cache) h.1
served_course keeps key call ToFind there Exists standing cache h = absurd h
served_course keeps key call ToFind there (Store plan) standing cache h = absurd h
served_course keeps key call (ToAdd handle) (Some entry) (Find told reply) standing cache h = absurd h
served_course keeps key call (ToAdd handle) (Some entry) Exists standing cache h = refl
served_course keeps key call (ToAdd handle) (Some entry) (Store plan) standing cache h = absurd h
served_course keeps key call (ToAdd handle) None (Find told reply) standing cache h = absurd h
served_course keeps key call (ToAdd handle) None Exists standing cache h = absurd h
served_course keeps key call (ToAdd handle) None (Store plan) standing cache h = refl

standing_course : {A : Type 0} (keeps : Bool) (key : List ℕ) (wish : Wish) (there : Option FlashEntry) (course : Course A) (standing : Option ℕ) → IsCourse keeps key wish there course → standing_as wish course standing ≡ stands_after wish there standing
standing_course keeps key ToFind there (Find told reply) standing h = refl
standing_course keeps key ToFind there Exists standing h = absurd h
standing_course keeps key ToFind there (Store plan) standing h = absurd h
standing_course keeps key (ToAdd handle) (Some entry) (Find told reply) standing h = absurd h
standing_course keeps key (ToAdd handle) (Some entry) Exists standing h = refl
standing_course keeps key (ToAdd handle) (Some entry) (Store plan) standing h = absurd h
standing_course keeps key (ToAdd handle) None (Find told reply) standing h = absurd h
standing_course keeps key (ToAdd handle) None Exists standing h = absurd h
standing_course keeps key (ToAdd handle) None (Store plan) standing h = refl

pub served-there : {A : Type 0} (keeps : Bool) (key : List ℕ) (waiters : List Waiter) (there : Option FlashEntry) (courses : List (Course A)) (standing : Option ℕ) (cache : Cache) → AreCourses keeps key cache.now waiters there courses → all_served_as waiters courses standing cache ≡ all_served waiters there standing cache
served-there keeps key [] there [] standing cache h = refl
served-there keeps key [] there (c ∷ courses) standing cache h = absurd h
served-there keeps key (w ∷ waiters) there [] standing cache h = absurd h
served-there keeps key (w ∷ waiters) there (c ∷ courses) standing cache h =
    let given = live cache.now there in
    let done = served_by w.call w.wish given standing cache in
    let same = served_course keeps key w.call w.wish given c standing cache h.0 in
    let stands = standing_course keeps key w.wish given c standing h.0 in
    let now : done.cache.now ≡ cache.now = ap (λ (t : Told). t.cache.now) (sym same) ∙ served_now w.call w.wish c standing cache in
    (λ i. and_then (same i) (all_served_as waiters courses (stands i)))
    ∙ ap (λ (t : Told). behind done.part t)
    (served-there keeps key waiters (there_after w.wish given) courses (stands_after w.wish given standing) done.cache (subst (λ n. AreCourses keeps key n waiters (there_after w.wish given) courses) (sym now) h.1))

fits_course : {A : Type 0} (keeps : Bool) (memory : Memory) (key : List ℕ) (wish : Wish) (there : Option FlashEntry) (course : Course A) → WishHolds memory key wish → IsCourse keeps key wish there course → Fits keeps key wish course
fits_course keeps memory key ToFind there (Find told reply) wishes h = h.0 ∙ sym h.1
fits_course keeps memory key ToFind there Exists wishes h = absurd h
fits_course keeps memory key ToFind there (Store plan) wishes h = absurd h
fits_course keeps memory key (ToAdd handle) (Some entry) (Find told reply) wishes h = absurd h
fits_course keeps memory key (ToAdd handle) (Some entry) Exists wishes h = tt
fits_course keeps memory key (ToAdd handle) (Some entry) (Store plan) wishes h = absurd h
fits_course keeps memory key (ToAdd handle) None (Find told reply) wishes h = absurd h
fits_course keeps memory key (ToAdd handle) None Exists wishes h = absurd h
fits_course keeps memory key (ToAdd handle) None (Store plan) wishes h = (wishes.0, h)

-- a plan fits the calls of a cache in which each add is of its key
pub courses-fit : {A : Type 0} (keeps : Bool) (memory : Memory) (key : List ℕ) (now : ℕ) (waiters : List Waiter) (there : Option FlashEntry) (courses : List (Course A)) → AllWish memory key waiters → AreCourses keeps key now waiters there courses → AllFit keeps key waiters courses
courses-fit keeps memory key now [] there [] wishes h = tt
courses-fit keeps memory key now [] there (c ∷ courses) wishes h = absurd h
courses-fit keeps memory key now (w ∷ waiters) there [] wishes h = absurd h
courses-fit keeps memory key now (w ∷ waiters) there (c ∷ courses) wishes h =
    let given = live now there in
    (fits_course keeps memory key w.wish given c wishes.0 h.0, courses-fit keeps memory key now waiters (there_after w.wish given) courses wishes.1 h.1)

-- so what is done by the plan is what the machine does
pub does-there : {A : Type 0} (keeps : Bool) (key : List ℕ) (waiters : List Waiter) (there : Option FlashEntry) (courses : List (Course A)) (standing : Option ℕ) (cost : Costs) (old new : Whole)
    → AreCourses keeps key old.cache.now waiters there courses → Does (all_served_as waiters courses standing old.cache) cost old new → Does (all_served waiters there standing old.cache) cost old new
does-there keeps key waiters there courses standing cost old new plan does = subst (λ (t : Told). Does t cost old new) (served-there keeps key waiters there courses standing old.cache plan) does
