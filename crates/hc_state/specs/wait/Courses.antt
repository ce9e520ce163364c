-- How each call that waits is served, as that was planned.
use Rattle.std.specs.Prelude.{◌≡◌, ℕ, Bool, true, List, [], ◌∷◌, Option, Some, None, ⊤}
use Rattle.hc_types.specs.FlashEntry.{FlashEntry}
use Rattle.hc_memory.specs.Item.{Open, Handle, charge_by}
use Rattle.hc_memory.specs.Charges.{is_open, closed}
use Rattle.hc_history.specs.Note as note
use Rattle.hc_history.specs.Seen.{reply_of}
use Rattle.hc_machine.specs.Nvm.{Waiter, Wish, ToFind, ToAdd}
use Rattle.hc_machine.specs.Cache.{Cache, Told, tells, and_then}
use Rattle.hc_machine.specs.Waiting.{find_reply, live, there_after, answer, free}
use Rattle.hc_state.specs.store.Clear.{ServesAlways}
use Rattle.hc_state.specs.wait.Commit.{planted_by}
use Rattle.hc_state.specs.declared.wait.commit.Course.{Course}
use Rattle.hc_state.specs.declared.wait.commit.Course.TheVariants.{Find, Exists, Store}

-- ---- the plan

-- it is what a call that waits for this key comes to, where this is what the key has, and has what that needs
abbrev pub IsCourse : {A : Type 0} → Bool → List ℕ → Wish → Option FlashEntry → Course A → Type 0
IsCourse keeps key ToFind there (Find told reply) = (reply_of told ≡ find_reply there) × (reply_of reply ≡ find_reply there)
IsCourse keeps key (ToAdd handle) (Some entry) Exists = ⊤
IsCourse keeps key (ToAdd handle) None (Store plan) = ServesAlways keeps key plan
IsCourse keeps key wish there course = ⊥

abbrev pub AreCourses : {A : Type 0} → Bool → List ℕ → ℕ → List Waiter → Option FlashEntry → List (Course A) → Type 0
AreCourses keeps key now [] there [] = ⊤
AreCourses keeps key now [] there (course ∷ courses) = ⊥
AreCourses keeps key now (waiter ∷ waiters) there [] = ⊥
AreCourses keeps key now (waiter ∷ waiters) there (course ∷ courses) =
    IsCourse keeps key waiter.wish (live now there) course × AreCourses keeps key now waiters (there_after waiter.wish (live now there)) courses

-- ---- what is done by it

-- the course is one for such a call, and has what it needs
abbrev pub Fits : {A : Type 0} → Bool → List ℕ → Wish → Course A → Type 0
Fits keeps key ToFind (Find told reply) = reply_of told ≡ reply_of reply
Fits keeps key (ToAdd handle) Exists = ⊤
Fits keeps key (ToAdd handle) (Store plan) = (handle.key ≡ key) × ServesAlways keeps key plan
Fits keeps key wish course = ⊥

abbrev pub AllFit : {A : Type 0} → Bool → List ℕ → List Waiter → List (Course A) → Type 0
AllFit keeps key [] [] = ⊤
AllFit keeps key [] (course ∷ courses) = ⊥
AllFit keeps key (waiter ∷ waiters) [] = ⊥
AllFit keeps key (waiter ∷ waiters) (course ∷ courses) = Fits keeps key waiter.wish course × AllFit keeps key waiters courses

abbrev pub served_as : {A : Type 0} → ℕ → Wish → Course A → Option ℕ → Cache → Told
served_as call wish (Find told reply) standing cache = answer call (reply_of reply) cache
served_as call (ToAdd handle) Exists standing cache = and_then (free handle.number cache) (answer call note.Exists)
served_as call (ToAdd handle) (Store plan) standing cache = and_then (planted_by standing handle cache) (answer call note.Stored)
served_as call ToFind course standing cache = tells [] cache

-- the charge of the item that the key has then
abbrev pub standing_as : {A : Type 0} → Wish → Course A → Option ℕ → Option ℕ
standing_as (ToAdd handle) (Store plan) standing = Some handle.number
standing_as wish course standing = standing

abbrev pub all_served_as : {A : Type 0} → List Waiter → List (Course A) → Option ℕ → Cache → Told
all_served_as [] courses standing cache = tells [] cache
all_served_as (waiter ∷ waiters) [] standing cache = tells [] cache
all_served_as (waiter ∷ waiters) (course ∷ courses) standing cache =
    and_then (served_as waiter.call waiter.wish course standing cache) (all_served_as waiters courses (standing_as waiter.wish course standing))

-- ---- charges

-- the charge that it frees is open
abbrev pub MayFree : {A : Type 0} → Wish → Course A → List Open → Type 0
MayFree (ToAdd handle) Exists charges = is_open (charge_by handle) charges ≡ true
MayFree wish course charges = ⊤

-- the charges that are open then
abbrev pub charges_as : {A : Type 0} → Wish → Course A → List Open → List Open
charges_as (ToAdd handle) Exists charges = closed handle.number charges
charges_as wish course charges = charges

-- each charge that is freed is open by then
abbrev pub AllMayFree : {A : Type 0} → List Waiter → List (Course A) → List Open → Type 0
AllMayFree [] courses charges = ⊤
AllMayFree (waiter ∷ waiters) [] charges = ⊤
AllMayFree (waiter ∷ waiters) (course ∷ courses) charges = MayFree waiter.wish course charges × AllMayFree waiters courses (charges_as waiter.wish course charges)

-- the charges without those of these handles
abbrev pub ended : List Handle → List Open → List Open
ended [] charges = charges
ended (handle ∷ handles) charges = ended handles (closed handle.number charges)
