-- No more charges are open after a key was inserted or removed.
use Rattle.std.proofs.Common.{ℕ, ◌≤◌, List, [], ◌∷◌, length, Option, Some, None, ap, arith}
use Rattle.hc_memory.specs.Item.{Open, Handle}
use Rattle.hc_memory.specs.Charges.{closed}
use Rattle.hc_memory.specs.Memory.{Memory, after_free, early}
use Rattle.hc_memory.proofs.Linking.{ones}
use Rattle.hc_memory.proofs.Making.{closed-less}
use Rattle.hc_history.specs.Note.{Reply}
use Rattle.hc_machine.specs.Nvm.{Waiter, Wish, ToFind, ToAdd}
use Rattle.hc_machine.specs.Cache.{Cache}
use Rattle.hc_state.specs.store.Chosen.{all_stored_as}
use Rattle.hc_state.specs.wait.Courses.{served_as, standing_as, all_served_as}
use Rattle.hc_state.specs.store.Link.{linked_with, linked_without, removed_early}
use Rattle.hc_state.specs.wait.Commit.{clear_by, waiters_at, without_calls}
use Rattle.hc_state.specs.store.Commit.{ended_as, store_as, unstore_as}
use Rattle.hc_state.specs.declared.wait.commit.Course.{Course}
use Rattle.hc_state.specs.declared.wait.commit.Course.TheVariants.{Find, Exists, Store}
use Rattle.hc_state.proofs.wait.Ends.{without-memory}
use Rattle.hc_state.proofs.store.Planted.{cleared-charges}

abbrev pub open_in : Cache → ℕ
open_in cache = length cache.memory.charges

closed-fewer : (n : ℕ) (charges : List Open) → length (closed n charges) ≤ length charges
closed-fewer n charges = omega (arith, closed-less (λ _. 1) n charges, ones (closed n charges), ones charges)

early-fewer : (handles : List Handle) (m : Memory) → length (early handles m).charges ≤ length m.charges
early-fewer [] m = omega arith
early-fewer (handle ∷ []) m = closed-fewer handle.number m.charges
early-fewer (handle ∷ next ∷ handles) m = omega (arith, closed-fewer handle.number m.charges, early-fewer (next ∷ handles) (after_free m handle.number))

cleared-fewer : (old : Option ℕ) (key : List ℕ) (cache : Cache) → open_in (clear_by old key cache).cache ≤ open_in cache
cleared-fewer old key cache = omega (arith, ap (λ (cs : List Open). length cs) (cleared-charges old key cache))

served-fewer : {A : Type 0} (call : ℕ) (wish : Wish) (course : Course A) (standing : Option ℕ) (cache : Cache) → open_in (served_as call wish course standing cache).cache ≤ open_in cache
served-fewer call ToFind (Find told reply) standing cache = omega arith
served-fewer call ToFind Exists standing cache = omega arith
served-fewer call ToFind (Store plan) standing cache = omega arith
served-fewer call (ToAdd handle) (Find told reply) standing cache = omega arith
served-fewer call (ToAdd handle) Exists standing cache = closed-fewer handle.number cache.memory.charges
served-fewer call (ToAdd handle) (Store plan) standing cache = cleared-fewer standing handle.key cache

all-fewer : {A : Type 0} (waiters : List Waiter) (courses : List (Course A)) (standing : Option ℕ) (cache : Cache) → open_in (all_served_as waiters courses standing cache).cache ≤ open_in cache
all-fewer [] courses standing cache = omega arith
all-fewer (w ∷ waiters) [] standing cache = omega arith
all-fewer (w ∷ waiters) (c ∷ courses) standing cache =
    omega (arith, served-fewer w.call w.wish c standing cache, all-fewer waiters courses (standing_as w.wish c standing) (served_as w.call w.wish c standing cache).cache)

ended-fewer : {A : Type 0} (key : List ℕ) (courses : List (Course A)) (standing : Option ℕ) (cache : Cache) → open_in (ended_as key courses standing cache).cache ≤ open_in cache
ended-fewer key courses standing cache =
    omega (arith, all-fewer (waiters_at cache.nvm key) courses standing (without_calls cache.nvm key cache), ap (λ (m : Memory). length m.charges) (without-memory cache.nvm key cache))

pub store-fewer : {A : Type 0} (standing : Option ℕ) (key : List ℕ) (number : ℕ) (courses : List (Course A)) (cache : Cache) → open_in (store_as standing key number courses cache).cache ≤ open_in cache
store-fewer standing key number courses cache = omega (arith, ended-fewer key courses (Some number) (clear_by standing key cache).cache, cleared-fewer standing key cache)

pub unstore-fewer : {A : Type 0} (standing : Option ℕ) (reply : Reply) (key : List ℕ) (courses : List (Course A)) (cache : Cache) → open_in (unstore_as standing reply key courses cache).cache ≤ open_in cache
unstore-fewer standing reply key courses cache = omega (arith, ended-fewer key courses None (clear_by standing key cache).cache, cleared-fewer standing key cache)

pub linked-fewer : {A : Type 0} (handle : Handle) (courses : List (Course A)) (cache : Cache) → open_in (linked_with handle courses cache) ≤ open_in cache
linked-fewer handle courses cache = early-fewer (handle ∷ all_stored_as (waiters_at cache.nvm handle.key) courses) cache.memory

removed-fewer : (key : List ℕ) (handles : List Handle) (m : Memory) → length (removed_early key handles m).charges ≤ length m.charges
removed-fewer key [] m = omega arith
removed-fewer key (handle ∷ handles) m = early-fewer (handle ∷ handles) m

pub unlinked-fewer : {A : Type 0} (key : List ℕ) (courses : List (Course A)) (cache : Cache) → open_in (linked_without key courses cache) ≤ open_in cache
unlinked-fewer key courses cache = removed-fewer key (all_stored_as (waiters_at cache.nvm key) courses) cache.memory
