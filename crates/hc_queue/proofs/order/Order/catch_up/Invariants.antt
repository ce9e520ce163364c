use Rattle.std.proofs.Common.{◌≡◌, ◌-◌, ◌≤◌, length}
use Rattle.hc_queue.proofs.order.Order.catch_up.Given as goal

-- as many lanes as there were steps were noted before, and aren't any more
abbrev pub invariant-loop : goal.invariant-loop
invariant-loop g l = record {
  entries : l.self.entries ≡ l.initial.self.entries;
  grows : l.initial.self.spare ≤ l.self.spare;
  left : length l.self.stale ≤ length l.initial.self.stale - l.counter;
}
