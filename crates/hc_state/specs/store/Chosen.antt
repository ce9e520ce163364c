-- Of the items that calls store, one in place of the other, the last stays: it is linked, and the charges of the others end.
use Rattle.std.specs.Prelude.{ℕ, List, [], ◌∷◌, ◌++◌, Option, Some, None, option_to_list}
use Rattle.hc_memory.specs.Item.{Handle}
use Rattle.hc_machine.specs.Nvm.{Waiter, Wish, ToAdd}
use Rattle.hc_state.specs.declared.wait.commit.Course.{Course}
use Rattle.hc_state.specs.declared.wait.commit.Course.TheVariants.{Store}

-- the item that a call stores by this course
abbrev pub stored_as : {A : Type 0} → Wish → Course A → Option Handle
stored_as (ToAdd handle) (Store plan) = Some handle
stored_as wish course = None

abbrev pub all_stored_as : {A : Type 0} → List Waiter → List (Course A) → List Handle
all_stored_as [] courses = []
all_stored_as (waiter ∷ waiters) [] = []
all_stored_as (waiter ∷ waiters) (course ∷ courses) = option_to_list (stored_as waiter.wish course) ++ all_stored_as waiters courses

-- the last of one and these
abbrev pub last_of : Option Handle → List Handle → Option Handle
last_of last [] = last
last_of last (handle ∷ handles) = last_of (Some handle) handles

-- these charges, and those of all but the last of one and these
abbrev pub before_last : List ℕ → Option Handle → List Handle → List ℕ
before_last numbers last [] = numbers
before_last numbers None (handle ∷ handles) = before_last numbers (Some handle) handles
before_last numbers (Some last) (handle ∷ handles) = before_last (numbers ++ last.number ∷ []) (Some handle) handles
