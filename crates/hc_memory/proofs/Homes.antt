-- The pool that has an item under a key.
use Rattle.std.proofs.Common.{◌≡◌, ℕ, zero, suc, Bool, true, false, List, [], ◌∷◌, Some, None, refl, ap, slice_get, slice_set}
use Rattle.std.specs.Prelude.{option_map}
use mathlib.Core.Bool.{cond}
use Rattle.hc_memory.specs.Pool.{Pool, item_at}
use Rattle.hc_memory.specs.Memory.{has, linked_at, home_of, change_home}
use Rattle.hc_memory.proofs.Keyed.{mapped-none}

-- there is none
pub record IsAway (key : List ℕ) (pools : List Pool) : Type 0 where
  pub linked : linked_at key pools ≡ None
  pub change : (f : Pool → Pool) → change_home key f pools ≡ pools

-- it is the one with this number
pub record IsHome (key : List ℕ) (pools : List Pool) (i : ℕ) : Type 0 where
  pub pool : Pool
  pub found : slice_get pools i ≡ Some pool
  pub holds : has key pool ≡ true
  pub linked : linked_at key pools ≡ item_at key pool.items
  pub change : (f : Pool → Pool) → change_home key f pools ≡ slice_set pools i (f pool)

away_step : (key : List ℕ) (pool : Pool) (pools : List Pool) (b : Bool) → has key pool ≡ b → cond b (Some 0) (option_map suc (home_of key pools)) ≡ None → (home_of key pools ≡ None → IsAway key pools) → IsAway key (pool ∷ pools)
away_step key pool pools true e h rest = absurd cc
away_step key pool pools false e h rest = let none = mapped-none suc (home_of key pools) h in
    let r = rest none in record { linked = rw e r.linked; change = λ f. rw e (ap (λ ps. pool ∷ ps) (r.change f)) }

pub away : (key : List ℕ) (pools : List Pool) → home_of key pools ≡ None → IsAway key pools
away key [] h = record { linked = refl; change = λ f. refl }
away key (pool ∷ pools) h = away_step key pool pools (has key pool) refl h (away key pools)

home_step : (key : List ℕ) (pool : Pool) (pools : List Pool) (i : ℕ) (b : Bool) → has key pool ≡ b → cond b (Some 0) (option_map suc (home_of key pools)) ≡ Some i → ((j : ℕ) → home_of key pools ≡ Some j → IsHome key pools j) → IsHome key (pool ∷ pools) i
home_step key pool pools zero true e h rest = record { pool = pool; found = refl; holds = e; linked = rw e refl; change = λ f. rw e refl }
home_step key pool pools (suc i) true e h rest = absurd cc
home_step key pool pools zero false e h rest = absurd (elim (home_of key pools) as (λ o. option_map suc o ≡ Some 0 → ⊥) [ None ↦ λ x. cc | Some n ↦ λ x. cc ] h)
home_step key pool pools (suc i) false e h rest = let some : home_of key pools ≡ Some i = elim (home_of key pools) as (λ o. option_map suc o ≡ Some (suc i) → o ≡ Some i) [ None ↦ λ x. absurd cc | Some n ↦ λ x. cc ] h in
    let r = rest i some in record { pool = r.pool; found = r.found; holds = r.holds; linked = rw e r.linked; change = λ f. rw e (ap (λ ps. pool ∷ ps) (r.change f)) }

pub home : (key : List ℕ) (pools : List Pool) (i : ℕ) → home_of key pools ≡ Some i → IsHome key pools i
home key [] i h = absurd cc
home key (pool ∷ pools) i h = home_step key pool pools i (has key pool) refl h (home key pools)
