use Rattle.std.proofs.Common.{◌≡◌, length}
use Rattle.std.specs.VecDeque.Iter.{deque_iter_rest}
use Rattle.hc_block.specs.Resting.{once_from}
use Rattle.hc_block.proofs.resting.all_come.Given as goal

-- the rest tells what all tell
abbrev pub invariant-loop-r : goal.invariant-loop-r
invariant-loop-r g l = record {
  long : length l.seen.items ≡ length l.regions;
  rest : once_from l.rest l.regions l.seen.items (deque_iter_rest l.r-iterator) ≡ once_from l.rest l.regions l.initial.seen.items l.numbers.items;
}
