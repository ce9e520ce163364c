-- A key is inserted or removed by a plan: what the calls that wait for it need was made.
use Rattle.std.specs.Prelude.{ℕ, List, [], ◌∷◌, length, Option, Some, None}
use Rattle.hc_history.specs.Note.{Reply, Stored, Linked}
use Rattle.hc_history.specs.Told.{is_log}
use Rattle.hc_machine.specs.Nvm.{Nvm, Fill, fill_at}
use Rattle.hc_machine.specs.Cache.{Cache, Told, tells, and_then}
use Rattle.hc_machine.specs.Calls.{replies_then}
use Rattle.hc_state.specs.wait.Commit.{clear_by, waiters_at, without_calls}
use Rattle.hc_state.specs.wait.Courses.{AllFit, AllMayFree, all_served_as}
use Rattle.hc_state.specs.Whole.{Whole}
use Rattle.hc_state.specs.declared.wait.commit.Course.{Course}

-- ---- a key's fill ends

abbrev pub fill_in : Option Nvm → List ℕ → Option Fill
fill_in None key = None
fill_in (Some nvm) key = fill_at key nvm.fills

-- the calls that wait for the key are served as that was planned, once they don't wait any more
abbrev pub ended_as : {A : Type 0} → List ℕ → List (Course A) → Option ℕ → Cache → Told
ended_as key courses standing cache = all_served_as (waiters_at cache.nvm key) courses standing (without_calls cache.nvm key cache)

-- how many calls wait for a key
abbrev pub how_many : List ℕ → Whole → ℕ
how_many key whole = length (waiters_at whole.cache.nvm key)

-- the calls that wait for the key can be served by this plan
pub record CanServe {A : Type 0} (key : List ℕ) (courses : List (Course A)) (whole : Whole) : Type 0 where
  pub fit : AllFit (is_log whole.log) key (waiters_at whole.cache.nvm key) courses
  pub may_free : AllMayFree (waiters_at whole.cache.nvm key) courses whole.cache.memory.charges

-- ---- a key is inserted or removed

abbrev pub store_as : {A : Type 0} → Option ℕ → List ℕ → ℕ → List (Course A) → Cache → Told
store_as standing key number courses cache =
    and_then (and_then (clear_by standing key cache) (tells (Linked number ∷ []))) (replies_then Stored (ended_as key courses (Some number)))

abbrev pub unstore_as : {A : Type 0} → Option ℕ → Reply → List ℕ → List (Course A) → Cache → Told
unstore_as standing reply key courses cache = and_then (clear_by standing key cache) (replies_then reply (ended_as key courses None))
