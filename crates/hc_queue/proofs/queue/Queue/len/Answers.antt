use Rattle.std.proofs.Common.{◌+◌, deque_len}
use Rattle.hc_queue.proofs.Places.{rises-whole}
use Rattle.hc_queue.proofs.queue.Queue.len.Goals as goal

pub returns-clause-rising : goal.returns-clause-rising
returns-clause-rising g c = let s = c.self.inside in rw (← c.self.view_is) ((s.from + deque_len s.inbox, rises-whole s.from s.order.entries s.inbox.items _ c.self.invariant.rises s.inbox.ok.0))
