use Rattle.std.proofs.Common.{◌≡◌, ℕ, List, true}
use Rattle.hc_types.specs.Tally.{count}
use Rattle.hc_memory.specs.Pool.{is_at}
use Rattle.hc_memory.specs.Clean.{is_listed}
use Rattle.hc_memory.proofs.clean.forget_items.Given as goal

-- a key that none of the items has is listed as before
abbrev pub invariant-loop-item : goal.invariant-loop-item
invariant-loop-item g l = record {
  newest : l.index.newest ≡ l.initial.index.newest;
  stay : (other : List ℕ) (n : ℕ) → count (is_at other) l.items ≡ 0 → is_listed l.flash l.initial.index other n ≡ true → is_listed l.flash l.index other n ≡ true;
}
