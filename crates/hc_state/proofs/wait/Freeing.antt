-- Each charge that a call frees is open by then: it was, no two calls have one, and none of those that end before is its own.
use Rattle.std.proofs.Common.{◌≡◌, ℕ, ◌+◌, ◌==◌, ◌≤◌, Bool, true, false, List, [], ◌∷◌, Option, Some, None, refl, ap, arith, cond}
use Rattle.std.specs.Prelude.{⊤}
use Rattle.hc_types.specs.Tally.{count}
use Rattle.hc_types.specs.FlashEntry.{FlashEntry}
use Rattle.hc_types.proofs.Tallies.{tally-append}
use Rattle.hc_memory.specs.Item.{Open, Handle, charge_by}
use Rattle.hc_memory.specs.Charges.{has_number, closed}
use Rattle.hc_memory.specs.Memory.{Memory}
use Rattle.hc_memory.proofs.Making.{closed-less}
use Rattle.hc_machine.specs.Nvm.{Waiter, Wish, ToFind, ToAdd, adds}
use Rattle.hc_machine.specs.Waiting.{live, there_after}
use Rattle.hc_invariant.specs.Jobs.{AllWish, WishHolds}
use Rattle.hc_proof.proofs.frames.OpenCharges.{stays_open}
use Rattle.hc_state.specs.wait.Commit.{stored_by, all_stored}
use Rattle.hc_state.specs.wait.Courses.{IsCourse, AreCourses, MayFree, AllMayFree, charges_as, ended}
use Rattle.hc_state.specs.declared.wait.commit.Course.{Course}
use Rattle.hc_state.specs.declared.wait.commit.Course.TheVariants.{Find, Exists, Store}

-- one charge a number
abbrev Single : List Open → Type 0
Single charges = (n : ℕ) → count (has_number n) charges ≤ 1

single_closed : (n : ℕ) (charges : List Open) → Single charges → Single (closed n charges)
single_closed n charges one m = omega (arith, one m, closed-less (λ (c : Open). cond (has_number m c) 1 0) n charges)

-- ---- how many calls free the charge with a number

abbrev frees_one : {A : Type 0} → ℕ → Wish → Course A → ℕ
frees_one n (ToAdd handle) Exists = cond (handle.number == n) 1 0
frees_one n wish course = 0

abbrev frees : {A : Type 0} → ℕ → List Waiter → List (Course A) → ℕ
frees n [] courses = 0
frees n (waiter ∷ waiters) [] = 0
frees n (waiter ∷ waiters) (course ∷ courses) = frees_one n waiter.wish course + frees n waiters courses

-- each of them is open
abbrev AllOpen : {A : Type 0} → List Waiter → List (Course A) → List Open → Type 0
AllOpen [] courses charges = ⊤
AllOpen (waiter ∷ waiters) [] charges = ⊤
AllOpen (waiter ∷ waiters) (course ∷ courses) charges = MayFree waiter.wish course charges × AllOpen waiters courses charges

other_number : (handle : Handle) (n : ℕ) (b : Bool) → (handle.number == n) ≡ b → ◌≡◌ {A = ℕ} (cond b 1 0) 0 → (handle.number == n) ≡ false
other_number handle n true e h = absurd (omega (arith, h))
other_number handle n false e h = e

one_stays : {A : Type 0} (n : ℕ) (wish : Wish) (course : Course A) (charges : List Open) → Single charges → frees_one n wish course ≡ 0 → MayFree wish course charges → MayFree wish course (closed n charges)
one_stays n ToFind (Find told reply) charges one none h = tt
one_stays n ToFind Exists charges one none h = tt
one_stays n ToFind (Store plan) charges one none h = tt
one_stays n (ToAdd handle) (Find told reply) charges one none h = tt
one_stays n (ToAdd handle) Exists charges one none h = stays_open (charge_by handle) n charges one (other_number handle n (handle.number == n) refl none) h
one_stays n (ToAdd handle) (Store plan) charges one none h = tt

all_stay : {A : Type 0} (n : ℕ) (waiters : List Waiter) (courses : List (Course A)) (charges : List Open) → Single charges → frees n waiters courses ≡ 0 → AllOpen waiters courses charges → AllOpen waiters courses (closed n charges)
all_stay n [] courses charges one none h = tt
all_stay n (w ∷ waiters) [] charges one none h = tt
all_stay n (w ∷ waiters) (c ∷ courses) charges one none h =
    (one_stays n w.wish c charges one (omega (arith, none)) h.0, all_stay n waiters courses charges one (omega (arith, none)) h.1)

-- ---- they go one by one

self_counts : (m n : ℕ) → cond (m == m) 1 0 + n ≤ 1 → n ≡ 0
self_counts m n h =
    let own : (m == m) ≡ true = grind arith in
    let one : ◌≡◌ {A = ℕ} (cond (m == m) 1 0) 1 = ap {B = ℕ} (λ b. cond b 1 0) own in
    omega (arith, h, one)

next_free : {A : Type 0} (wish : Wish) (c : Course A) (waiters : List Waiter) (courses : List (Course A)) (charges : List Open) → Single charges → ((n : ℕ) → frees_one n wish c + frees n waiters courses ≤ 1) → AllOpen waiters courses charges
    → ((left : List Open) → Single left → AllOpen waiters courses left → AllMayFree waiters courses left) → AllMayFree waiters courses (charges_as wish c charges)
next_free ToFind (Find told reply) waiters courses charges one once h go = go charges one h
next_free ToFind Exists waiters courses charges one once h go = go charges one h
next_free ToFind (Store plan) waiters courses charges one once h go = go charges one h
next_free (ToAdd handle) (Find told reply) waiters courses charges one once h go = go charges one h
next_free (ToAdd handle) Exists waiters courses charges one once h go =
    go (closed handle.number charges) (single_closed handle.number charges one)
    (all_stay handle.number waiters courses charges one (self_counts handle.number (frees handle.number waiters courses) (once handle.number)) h)
next_free (ToAdd handle) (Store plan) waiters courses charges one once h go = go charges one h

go_one_by_one : {A : Type 0} (waiters : List Waiter) (courses : List (Course A)) (charges : List Open) → Single charges → ((n : ℕ) → frees n waiters courses ≤ 1) → AllOpen waiters courses charges → AllMayFree waiters courses charges
go_one_by_one [] courses charges one once h = tt
go_one_by_one (w ∷ waiters) [] charges one once h = tt
go_one_by_one (w ∷ waiters) (c ∷ courses) charges one once h =
    (h.0, next_free w.wish c waiters courses charges one once h.1 (λ left single all. go_one_by_one waiters courses left single (λ n. omega (arith, once n)) all))

-- ---- others end before

abbrev is_of : ℕ → Handle → Bool
is_of n handle = handle.number == n

ended_stay : {A : Type 0} (handles : List Handle) (waiters : List Waiter) (courses : List (Course A)) (charges : List Open) → Single charges → ((n : ℕ) → frees n waiters courses + count (is_of n) handles ≤ 1) → AllOpen waiters courses charges
    → Single (ended handles charges) × AllOpen waiters courses (ended handles charges)
ended_stay [] waiters courses charges one once h = (one, h)
ended_stay (handle ∷ handles) waiters courses charges one once h =
    let n = handle.number in
    let none : frees n waiters courses ≡ 0 = self_counts n (frees n waiters courses) (omega (arith, once n)) in
    ended_stay handles waiters courses (closed n charges) (single_closed n charges one) (λ m. omega (arith, once m)) (all_stay n waiters courses charges one none h)

-- ---- the plan

one_add : {A : Type 0} (n : ℕ) (keeps : Bool) (key : List ℕ) (call : ℕ) (wish : Wish) (there : Option FlashEntry) (course : Course A) → IsCourse keeps key wish there course → frees_one n wish course + count (is_of n) (stored_by wish there) ≡ cond (adds n (record { call = call; wish = wish })) 1 0
one_add n keeps key call ToFind there (Find told reply) h = refl
one_add n keeps key call ToFind there Exists h = absurd h
one_add n keeps key call ToFind there (Store plan) h = absurd h
one_add n keeps key call (ToAdd handle) (Some entry) (Find told reply) h = absurd h
one_add n keeps key call (ToAdd handle) (Some entry) Exists h = omega arith
one_add n keeps key call (ToAdd handle) (Some entry) (Store plan) h = absurd h
one_add n keeps key call (ToAdd handle) None (Find told reply) h = absurd h
one_add n keeps key call (ToAdd handle) None Exists h = absurd h
one_add n keeps key call (ToAdd handle) None (Store plan) h = omega arith

all_adds : {A : Type 0} (n : ℕ) (keeps : Bool) (key : List ℕ) (now : ℕ) (waiters : List Waiter) (there : Option FlashEntry) (courses : List (Course A)) → AreCourses keeps key now waiters there courses → frees n waiters courses + count (is_of n) (all_stored now waiters there) ≡ count (adds n) waiters
all_adds n keeps key now [] there [] h = refl
all_adds n keeps key now [] there (c ∷ courses) h = absurd h
all_adds n keeps key now (w ∷ waiters) there [] h = absurd h
all_adds n keeps key now (w ∷ waiters) there (c ∷ courses) h =
    let given = live now there in
    let next = there_after w.wish given in
    omega (
      arith,
      one_add n keeps key w.call w.wish given c h.0,
      all_adds n keeps key now waiters next courses h.1,
      tally-append (λ (x : Handle). cond (is_of n x) 1 0) (stored_by w.wish given) (all_stored now waiters next),
    )

wish_open : {A : Type 0} (memory : Memory) (key : List ℕ) (wish : Wish) (course : Course A) → WishHolds memory key wish → MayFree wish course memory.charges
wish_open memory key ToFind (Find told reply) h = tt
wish_open memory key ToFind Exists h = tt
wish_open memory key ToFind (Store plan) h = tt
wish_open memory key (ToAdd handle) (Find told reply) h = tt
wish_open memory key (ToAdd handle) Exists h = h.1
wish_open memory key (ToAdd handle) (Store plan) h = tt

wishes_open : {A : Type 0} (memory : Memory) (key : List ℕ) (waiters : List Waiter) (courses : List (Course A)) → AllWish memory key waiters → AllOpen waiters courses memory.charges
wishes_open memory key [] courses h = tt
wishes_open memory key (w ∷ waiters) [] h = tt
wishes_open memory key (w ∷ waiters) (c ∷ courses) h = (wish_open memory key w.wish c h.0, wishes_open memory key waiters courses h.1)

-- in a cache where each add's charge is open, and no two have one: those of the adds that find a value are open when their
-- turn comes, once those of the adds that store have ended
pub may-free : {A : Type 0} (keeps : Bool) (memory : Memory) (key : List ℕ) (now : ℕ) (waiters : List Waiter) (there : Option FlashEntry) (courses : List (Course A))
    → AllWish memory key waiters → ((n : ℕ) → count (has_number n) memory.charges ≤ 1) → ((n : ℕ) → count (adds n) waiters ≤ 1) → AreCourses keeps key now waiters there courses
    → AllMayFree waiters courses (ended (all_stored now waiters there) memory.charges)
may-free keeps memory key now waiters there courses wishes one once plan =
    let stored = all_stored now waiters there in
    let each : (n : ℕ) → frees n waiters courses + count (is_of n) stored ≤ 1 = λ n. omega (arith, once n, all_adds n keeps key now waiters there courses plan) in
    let ends = ended_stay stored waiters courses memory.charges one each (wishes_open memory key waiters courses wishes) in
    go_one_by_one waiters courses (ended stored memory.charges) ends.0 (λ n. omega (arith, each n)) ends.1
