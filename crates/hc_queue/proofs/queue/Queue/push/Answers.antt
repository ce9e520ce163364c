use Rattle.std.proofs.Common.{◌+◌, ◌++◌, ◌≤◌, false, length, ◌∙◌, arith}
use Rattle.std.specs.VecDeque.{deque_len}
use Rattle.hc_queue.specs.declared.queue.Piece.{Piece}
use Rattle.hc_queue.specs.Queue.{numbered}
use Rattle.hc_queue.proofs.Places.{rises-whole, rises-length, pushed-end, counted-more}
use Rattle.hc_queue.proofs.queue.Queue.push.Goals as goal

pub overflow_add-self : goal.overflow_add-self
overflow_add-self g c =
    let s = c.self.inside in
    let k : 0 + length (s.order.entries ++ numbered s.from s.inbox.items) ≤ s.from + deque_len s.inbox = rises-length 0 (s.from + deque_len s.inbox) _ (rises-whole s.from s.order.entries s.inbox.items _ c.self.invariant.rises s.inbox.ok.0) in
    let n = c.self.invariant.counts in
    let m = c.self.invariant.numbers in
    let r = (rw (← c.self.view_is) at c.requires) in
    omega (arith, k, n, m, r)

pub invariant_of-self : goal.invariant_of-self
invariant_of-self g c =
    let s = c.self.inside in
    let p : Piece _ = record { lane = c.args.lane; taken = false; value = c.args.value } in
    let len = c.push_back_reserved.ensures.len in
    let capacity = c.push_back_reserved.ensures.capacity in
    let room = (rw (← c.self.view_is) at c.requires) in
    record {
      rises = c.self.invariant.rises;
      fits = (let was = c.self.invariant.fits in omega (arith, was, len, capacity, room));
      spare = (let was = c.self.invariant.spare in omega (arith, was, len, room));
      numbers = (let was = c.self.invariant.numbers in omega (arith, was, len, room));
      counts = counted-more s.from (deque_len s.inbox) s.count p s.order.entries s.inbox.items c.push_back_reserved.new.self.items c.push_back_reserved.ensures.items s.inbox.ok.0 c.self.invariant.counts;
    }

pub returns-clause-entries : goal.returns-clause-entries
returns-clause-entries g c =
    let s = c.self.inside in
    let p : Piece _ = record { lane = c.args.lane; taken = false; value = c.args.value } in
    rw (← c.self.view_is) (pushed-end s.from c.len.result p s.order.entries s.inbox.items c.push_back_reserved.new.self.items c.push_back_reserved.ensures.items (c.len.ensures ∙ s.inbox.ok.0))
