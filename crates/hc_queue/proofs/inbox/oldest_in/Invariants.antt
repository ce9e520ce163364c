use Rattle.std.proofs.Common.{◌≡◌, ◌+◌, length}
use Rattle.std.specs.VecDeque.Iter.{deque_iter_rest}
use Rattle.hc_queue.specs.Queue.{oldest, numbered}
use Rattle.hc_queue.proofs.inbox.oldest_in.Given as goal

-- what was passed has no piece
abbrev pub invariant-loop-slot : goal.invariant-loop-slot
invariant-loop-slot g l = record {
  can : (goal.iterator-loop-slot g).can_next l.slot-iterator;
  finite : (goal.iterator-loop-slot g).is_finite l.slot-iterator;
  rest : oldest (numbered l.number (deque_iter_rest l.slot-iterator)) ≡ oldest (numbered l.from l.inbox.items);
  within : l.number + length (deque_iter_rest l.slot-iterator) ≡ l.from + length l.inbox.items;
}
