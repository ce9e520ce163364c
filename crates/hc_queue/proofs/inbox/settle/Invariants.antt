use Rattle.std.proofs.Common.{◌≡◌, ◌+◌, []}
use Rattle.std.specs.VecDeque.{deque_len}
use Rattle.hc_queue.specs.Queue.{Settles}
use Rattle.hc_queue.proofs.inbox.settle.Given as goal

-- as many places as there were steps went
abbrev pub invariant-loop : goal.invariant-loop
invariant-loop g l = record {
  settles : Settles l.fn.order l.fn.inbox l.fn.from l.order l.inbox l.from;
  ready : l.order.stale ≡ [];
  left : deque_len l.inbox + l.counter ≡ deque_len l.fn.inbox;
  end : l.end ≡ deque_len l.fn.inbox;
}
