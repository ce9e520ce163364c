use Rattle.std.proofs.Common.{◌≡◌, ◌+◌, ◌∷◌, ap, sym, subst, ◌∙◌, arith}
use Rattle.std.specs.VecDeque.{deque_len}
use Rattle.hc_queue.specs.Queue.{Rises}
use Rattle.hc_queue.proofs.Pushed.{rises-push}
use Rattle.hc_queue.proofs.Places.{rises-more, first-empty, first-enters}
use Rattle.hc_queue.proofs.inbox.settle_one.Goals as goal

pub returns-in_default-slot-clause-settles : goal.returns-in_default-slot-clause-settles
returns-in_default-slot-clause-settles g c =
    let from = c.args.from.now in
    let less : deque_len c.pop_front.new.self + 1 ≡ deque_len c.args.inbox.now = c.in-Some.ensures.cases in
    let capacity = c.pop_front.ensures.capacity in
    record {
      entries = first-empty from c.args.order.now.entries c.pop_front.new.self.items c.args.inbox.now.items (c.in-Some.ensures.items ∙ ap (λ slot. slot ∷ c.pop_front.new.self.items) c.in_default-slot.is);
      rises = rises-more 0 from (from + 1) c.args.order.now.entries (omega arith) c.requires.rises;
      next = omega (arith, less);
      shorter = omega (arith, less);
      capacity = omega (arith, capacity);
      spare = omega (arith, less);
    }

pub returns-in-Ok-clause-settles : goal.returns-in-Ok-clause-settles
returns-in-Ok-clause-settles g c =
    let from = c.args.from.now in
    let less : deque_len c.pop_front.new.self + 1 ≡ deque_len c.args.inbox.now = c.in-Some.ensures.cases in
    let capacity = c.pop_front.ensures.capacity in
    let spare = c.in-Ok.ensures.spare in
    record {
      entries = first-enters from c.in-Some-slot.piece c.args.order.now.entries c.enter.new.self.entries c.pop_front.new.self.items c.args.inbox.now.items (c.in-Some.ensures.items ∙ ap (λ slot. slot ∷ c.pop_front.new.self.items) c.in-Some-slot.is) c.in-Ok.ensures.entries;
      rises = subst (Rises 0 (from + 1)) (sym c.in-Ok.ensures.entries) (rises-push 0 from c.in-Some-slot.piece c.args.order.now.entries c.requires.rises);
      next = omega (arith, less);
      shorter = omega (arith, less);
      capacity = omega (arith, capacity);
      spare = omega (arith, less, spare);
    }
