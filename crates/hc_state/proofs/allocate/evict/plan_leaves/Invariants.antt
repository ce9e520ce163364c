use Rattle.std.proofs.Common.{◌≡◌, ◌+◌, ◌≤◌, ◌++◌, map, length, vec_len, vec_capacity}
use Rattle.std.specs.Vec.Iter.{into_iter_items, into_iter_len}
use Rattle.hc_state.specs.allocate.Evict.{leave_of}
use Rattle.hc_state.proofs.allocate.evict.plan_leaves.Given as goal

-- what is made, and what is left to make, come to all
abbrev pub invariant-loop-copy : goal.invariant-loop-copy
invariant-loop-copy g l = record {
  made : l.leaves.items ++ map (leave_of (g.N.Listener.told l.notes)) (into_iter_items l.copy-iterator) ≡ map (leave_of (g.N.Listener.told l.notes)) l.fn.keys.items;
  counted : length (into_iter_items l.copy-iterator) ≡ into_iter_len l.copy-iterator;
  room : vec_len l.leaves + into_iter_len l.copy-iterator ≤ vec_capacity l.leaves;
}
