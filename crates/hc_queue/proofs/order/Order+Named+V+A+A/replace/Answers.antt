use Rattle.hc_queue.proofs.Valued.{kept-named}
use Rattle.hc_queue.proofs.order.Order+Named+V+A+A.replace.Goals as goal

pub invariant_of-self : goal.invariant_of-self
invariant_of-self g c =
    let s = c.self.inside in
    rw (c.replace_in.ensures.entries c.self.invariant.rises.0 c.self.invariant.rises.1)
    (kept-named c.args.value c.args.number s.pieces.entries s.lanes.keys s.waits.keys s.ready.keys s.stale.items _ c.self.invariant)
