use Rattle.std.proofs.Common.{◌≡◌, length}
use Rattle.std.specs.Vec.Iter.{into_iter_items, into_iter_len}
use Rattle.hc_state.specs.wait.Courses.{all_served_as}
use Rattle.hc_state.proofs.wait.Serves.{Left}
use Rattle.hc_state.proofs.state.State.serve_all.Given as goal

-- the calls that are left, and what was done, come to all
abbrev pub invariant-loop-waiter : goal.invariant-loop-waiter
invariant-loop-waiter g l = record {
  left : Left l.key (all_served_as l.fn.waiters.items l.fn.courses.items l.fn.standing l.fn.self.cache) l.fn.self (length l.fn.waiters.items) (into_iter_items l.waiter-iterator) (into_iter_items l.courses) l.standing l.self;
  counted : length (into_iter_items l.waiter-iterator) ≡ into_iter_len l.waiter-iterator;
  planned : length (into_iter_items l.courses) ≡ into_iter_len l.courses;
}
