use Rattle.std.proofs.Common.{◌++◌, length, ap, subst, sym, ◌∙◌, arith}
use Rattle.hc_queue.specs.Queue.{Rises, numbered}
use Rattle.hc_queue.proofs.Gone.{rises-taken}
use Rattle.hc_queue.proofs.Places.{taken-front, taken-back, length-taken}
use Rattle.hc_queue.proofs.queue.Queue.mark.Goals as goal

pub invariant_of-self : goal.invariant_of-self
invariant_of-self g c =
    let s = c.self.inside in
    let h = c.if-number-self.true in
    let same = ap (λ es. es ++ numbered s.from s.inbox.items) c.mark.ensures.entries ∙ taken-front c.args.number s.from s.order.entries s.inbox.items (grind (arith, h)) in
    record {
      rises = subst (Rises 0 s.from) (sym c.mark.ensures.entries) (rises-taken c.args.number 0 s.from s.order.entries c.self.invariant.rises);
      fits = c.self.invariant.fits;
      spare = (let was = c.self.invariant.spare in let more = c.mark.ensures.grows in omega (arith, was, more));
      numbers = c.self.invariant.numbers;
      counts = c.self.invariant.counts ∙ (sym (length-taken c.args.number (s.order.entries ++ numbered s.from s.inbox.items)) ∙ ap length (sym same));
    }

pub invariant_of-self-else-number-self : goal.invariant_of-self-else-number-self
invariant_of-self-else-number-self g c =
    let s = c.self.inside in
    let h = c.if-number-self.false in
    let same = ap (λ xs. s.order.entries ++ numbered s.from xs) c.mark_in.ensures.items ∙ taken-back c.args.number s.from s.order.entries s.inbox.items c.self.invariant.rises (grind (arith, h)) in
    let len = c.mark_in.ensures.len in
    let capacity = c.mark_in.ensures.capacity in
    record {
      rises = c.self.invariant.rises;
      fits = (let was = c.self.invariant.fits in omega (arith, was, len, capacity));
      spare = (let was = c.self.invariant.spare in omega (arith, was, len));
      numbers = (let was = c.self.invariant.numbers in omega (arith, was, len));
      counts = c.self.invariant.counts ∙ (sym (length-taken c.args.number (s.order.entries ++ numbered s.from s.inbox.items)) ∙ ap length (sym same));
    }

pub returns-then-number-self-clause-entries : goal.returns-then-number-self-clause-entries
returns-then-number-self-clause-entries g c =
    let s = c.self.inside in
    let h = c.if-number-self.true in
    rw (← c.self.view_is) (ap (λ es. es ++ numbered s.from s.inbox.items) c.mark.ensures.entries ∙ taken-front c.args.number s.from s.order.entries s.inbox.items (grind (arith, h)))

pub returns-else-number-self-clause-entries : goal.returns-else-number-self-clause-entries
returns-else-number-self-clause-entries g c =
    let s = c.self.inside in
    let h = c.if-number-self.false in
    rw (← c.self.view_is) (ap (λ xs. s.order.entries ++ numbered s.from xs) c.mark_in.ensures.items ∙ taken-back c.args.number s.from s.order.entries s.inbox.items c.self.invariant.rises (grind (arith, h)))
