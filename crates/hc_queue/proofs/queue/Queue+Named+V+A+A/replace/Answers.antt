use Rattle.std.proofs.Common.{◌++◌, length, ap, sym, ◌∙◌, arith}
use Rattle.std.specs.Prelude.{option_map}
use Rattle.hc_queue.specs.Queue.{numbered}
use Rattle.hc_queue.specs.Keys.{value_of}
use Rattle.hc_queue.proofs.Places.{piece-front, piece-back}
use Rattle.hc_queue.proofs.Valued.{rises-valued, named-front, named-back, length-named}
use Rattle.hc_queue.proofs.queue.Queue+Named+V+A+A.replace.Goals as goal

pub invariant_of-self : goal.invariant_of-self
invariant_of-self g c =
    let s = c.self.inside in
    let h = c.if-number-self.true in
    let same = ap (λ es. es ++ numbered s.from s.inbox.items) c.replace.ensures.entries ∙ named-front c.args.value c.args.number s.from s.order.entries s.inbox.items (grind (arith, h)) in
    record {
      rises = rises-valued c.args.value c.args.number s.from s.order.entries c.replace.new.self.entries c.replace.ensures.entries c.self.invariant.rises;
      fits = c.self.invariant.fits;
      spare = (let was = c.self.invariant.spare in let more = c.replace.ensures.spare in omega (arith, was, more));
      numbers = c.self.invariant.numbers;
      counts = c.self.invariant.counts ∙ (sym (length-named c.args.value c.args.number (s.order.entries ++ numbered s.from s.inbox.items)) ∙ ap length (sym same));
    }

pub invariant_of-self-else-number-self : goal.invariant_of-self-else-number-self
invariant_of-self-else-number-self g c =
    let s = c.self.inside in
    let h = c.if-number-self.false in
    let same = ap (λ xs. s.order.entries ++ numbered s.from xs) c.replace_in.ensures.items ∙ named-back c.args.value c.args.number s.from s.order.entries s.inbox.items c.self.invariant.rises (grind (arith, h)) in
    let len = c.replace_in.ensures.len in
    let capacity = c.replace_in.ensures.capacity in
    record {
      rises = c.self.invariant.rises;
      fits = (let was = c.self.invariant.fits in omega (arith, was, len, capacity));
      spare = (let was = c.self.invariant.spare in omega (arith, was, len));
      numbers = (let was = c.self.invariant.numbers in omega (arith, was, len));
      counts = c.self.invariant.counts ∙ (sym (length-named c.args.value c.args.number (s.order.entries ++ numbered s.from s.inbox.items)) ∙ ap length (sym same));
    }

pub returns-then-number-self-clause-value : goal.returns-then-number-self-clause-value
returns-then-number-self-clause-value g c =
    let s = c.self.inside in
    let h = c.if-number-self.true in
    rw (← c.self.view_is) (c.replace.ensures.value ∙ ap (option_map value_of) (piece-front c.args.number s.from s.order.entries s.inbox.items (grind (arith, h))))

pub returns-then-number-self-clause-entries : goal.returns-then-number-self-clause-entries
returns-then-number-self-clause-entries g c =
    let s = c.self.inside in
    let h = c.if-number-self.true in
    rw (← c.self.view_is) (ap (λ es. es ++ numbered s.from s.inbox.items) c.replace.ensures.entries ∙ named-front c.args.value c.args.number s.from s.order.entries s.inbox.items (grind (arith, h)))

pub returns-else-number-self-clause-value : goal.returns-else-number-self-clause-value
returns-else-number-self-clause-value g c =
    let s = c.self.inside in
    let h = c.if-number-self.false in
    rw (← c.self.view_is) (c.replace_in.ensures.value ∙ ap (option_map value_of) (piece-back c.args.number s.from s.order.entries s.inbox.items c.self.invariant.rises (grind (arith, h))))

pub returns-else-number-self-clause-entries : goal.returns-else-number-self-clause-entries
returns-else-number-self-clause-entries g c =
    let s = c.self.inside in
    let h = c.if-number-self.false in
    rw (← c.self.view_is) (ap (λ xs. s.order.entries ++ numbered s.from xs) c.replace_in.ensures.items ∙ named-back c.args.value c.args.number s.from s.order.entries s.inbox.items c.self.invariant.rises (grind (arith, h)))
