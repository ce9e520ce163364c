use Rattle.std.proofs.Common.{◌∙◌, arith}
use Rattle.hc_queue.proofs.Places.{piece-front, piece-back}
use Rattle.hc_queue.proofs.queue.Queue.get.Goals as goal

pub returns-then-number-self : goal.returns-then-number-self
returns-then-number-self g c =
    let s = c.self.inside in
    let h = c.if-number-self.true in
    rw (← c.self.view_is) (c.get.ensures ∙ piece-front c.args.number s.from s.order.entries s.inbox.items (grind (arith, h)))

pub returns-else-number-self : goal.returns-else-number-self
returns-else-number-self g c =
    let s = c.self.inside in
    let h = c.if-number-self.false in
    rw (← c.self.view_is) (c.get_in.ensures ∙ piece-back c.args.number s.from s.order.entries s.inbox.items c.self.invariant.rises (grind (arith, h)))
