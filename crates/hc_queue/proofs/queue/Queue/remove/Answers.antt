use Rattle.std.proofs.Common.{◌+◌, ◌++◌, true, false, sym, ◌∙◌, arith}
use Rattle.std.specs.VecDeque.{deque_len}
use Rattle.hc_queue.specs.Queue.{numbered}
use Rattle.hc_queue.proofs.Places.{rises-whole, counted-less}
use Rattle.hc_queue.proofs.queue.Queue.remove.Goals as goal

pub invariant_of-self : goal.invariant_of-self
invariant_of-self g c =
    let s = c.self.inside in
    let len = c.take-piece.ensures.len in
    let capacity = c.take-piece.ensures.capacity in
    record {
      rises = c.take-piece.ensures.rises;
      fits = (let was = c.self.invariant.fits in omega (arith, was, len, capacity));
      spare = (let was = c.self.invariant.spare in let more = c.take-piece.ensures.grows in omega (arith, was, len, more));
      numbers = (let was = c.self.invariant.numbers in omega (arith, was, len));
      counts = (let k = counted-less c.args.number (s.from + deque_len s.inbox) s.count c.take-piece.result (s.order.entries ++ numbered s.from s.inbox.items) _ true (rises-whole s.from s.order.entries s.inbox.items _ c.self.invariant.rises s.inbox.ok.0) c.self.invariant.counts c.take-piece.ensures.piece c.take-piece.ensures.entries (sym c.is_some.ensures ∙ c.if-is_some.true) in omega (arith, k));
    }

pub invariant_of-self-else-is_some : goal.invariant_of-self-else-is_some
invariant_of-self-else-is_some g c =
    let s = c.self.inside in
    let len = c.take-piece.ensures.len in
    let capacity = c.take-piece.ensures.capacity in
    record {
      rises = c.take-piece.ensures.rises;
      fits = (let was = c.self.invariant.fits in omega (arith, was, len, capacity));
      spare = (let was = c.self.invariant.spare in let more = c.take-piece.ensures.grows in omega (arith, was, len, more));
      numbers = (let was = c.self.invariant.numbers in omega (arith, was, len));
      counts = (let k = counted-less c.args.number (s.from + deque_len s.inbox) s.count c.take-piece.result (s.order.entries ++ numbered s.from s.inbox.items) _ false (rises-whole s.from s.order.entries s.inbox.items _ c.self.invariant.rises s.inbox.ok.0) c.self.invariant.counts c.take-piece.ensures.piece c.take-piece.ensures.entries (sym c.is_some.ensures ∙ c.if-is_some.false) in omega (arith, k));
    }
