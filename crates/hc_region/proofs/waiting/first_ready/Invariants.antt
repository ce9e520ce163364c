use Rattle.std.proofs.Common.{◌≡◌, length}
use Rattle.std.specs.VecDeque.Iter.{deque_iter_rest}
use Rattle.hc_engines.specs.large.Steps.{first_ready as first_of}
use Rattle.hc_region.specs.Numbers.{AllThere}
use Rattle.hc_region.proofs.waiting.first_ready.Given as goal

-- the first of all is that of those that weren't walked
abbrev pub invariant-loop-r : goal.invariant-loop-r
invariant-loop-r g l = record {
  there : AllThere (length l.regions) (deque_iter_rest l.r-iterator);
  rest : first_of l.regions (deque_iter_rest l.r-iterator) ≡ first_of l.regions l.sealed.items;
}
