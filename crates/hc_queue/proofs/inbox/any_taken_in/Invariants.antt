use Rattle.std.proofs.Common.{◌≡◌}
use Rattle.std.specs.List.{list_any}
use Rattle.std.specs.VecDeque.Iter.{deque_iter_rest}
use Rattle.hc_queue.specs.Queue.{is_taken_slot}
use Rattle.hc_queue.proofs.inbox.any_taken_in.Given as goal

-- what was passed isn't taken
abbrev pub invariant-loop-slot : goal.invariant-loop-slot
invariant-loop-slot g l = record {
  can : (goal.iterator-loop-slot g).can_next l.slot-iterator;
  finite : (goal.iterator-loop-slot g).is_finite l.slot-iterator;
  rest : list_any is_taken_slot (deque_iter_rest l.slot-iterator) ≡ list_any is_taken_slot l.inbox.items;
}
