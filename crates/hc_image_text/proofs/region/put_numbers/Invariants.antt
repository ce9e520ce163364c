use Rattle.std.proofs.Common.{◌≡◌, ◌++◌}
use Rattle.std.specs.VecDeque.Iter.{deque_iter_rest}
use Rattle.hc_image_text.specs.Regions.{numbers_bytes}
use Rattle.hc_image_text.proofs.region.put_numbers.Given as goal

-- with those that aren't written yet, all is there
abbrev pub invariant-loop-number : goal.invariant-loop-number
invariant-loop-number g l = l.out.items ++ numbers_bytes (deque_iter_rest l.number-iterator) ≡ l.initial.out.items ++ numbers_bytes l.numbers.items
