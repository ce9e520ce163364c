use Rattle.std.proofs.Common.{◌++◌, ap, subst, sym, ◌∙◌, arith}
use Rattle.hc_queue.specs.Queue.{Rises, numbered}
use Rattle.hc_queue.proofs.Gone.{rises-gone}
use Rattle.hc_queue.proofs.Places.{gone-front, gone-back, piece-front, piece-back}
use Rattle.hc_queue.proofs.queue.take.Goals as goal

pub returns-then-number-from-clause-piece : goal.returns-then-number-from-clause-piece
returns-then-number-from-clause-piece g c =
    let h = c.if-number-from.true in
    c.remove.ensures.piece ∙ piece-front c.args.number c.args.from c.args.order.now.entries c.args.inbox.now.items (grind (arith, h))

pub returns-then-number-from-clause-entries : goal.returns-then-number-from-clause-entries
returns-then-number-from-clause-entries g c =
    let h = c.if-number-from.true in
    ap (λ es. es ++ numbered c.args.from c.args.inbox.now.items) c.remove.ensures.entries ∙ gone-front c.args.number c.args.from c.args.order.now.entries c.args.inbox.now.items (grind (arith, h))

pub returns-then-number-from-clause-rises : goal.returns-then-number-from-clause-rises
returns-then-number-from-clause-rises g c = subst (Rises 0 c.args.from) (sym c.remove.ensures.entries) (rises-gone c.args.number 0 c.args.from c.args.order.now.entries c.requires.rises)

pub returns-else-number-from-clause-piece : goal.returns-else-number-from-clause-piece
returns-else-number-from-clause-piece g c =
    let h = c.if-number-from.false in
    c.take_in.ensures.piece ∙ piece-back c.args.number c.args.from c.args.order.now.entries c.args.inbox.now.items c.requires.rises (grind (arith, h))

pub returns-else-number-from-clause-entries : goal.returns-else-number-from-clause-entries
returns-else-number-from-clause-entries g c =
    let h = c.if-number-from.false in
    ap (λ xs. c.args.order.now.entries ++ numbered c.args.from xs) c.take_in.ensures.items ∙ gone-back c.args.number c.args.from c.args.order.now.entries c.args.inbox.now.items c.requires.rises (grind (arith, h))
