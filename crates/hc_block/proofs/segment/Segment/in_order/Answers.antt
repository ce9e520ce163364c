use Rattle.hc_block.proofs.Pairs.{rises-is}
use Rattle.hc_block.proofs.segment.Segment.in_order.Goals as goal

pub returns : goal.returns
returns g c = rw (← c.self.view_is) (rises-is c.self.inside.map.entries c.len-len.ensures.ordered)
