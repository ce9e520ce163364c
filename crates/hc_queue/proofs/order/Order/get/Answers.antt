use Rattle.std.proofs.Common.{◌∙◌}
use Rattle.hc_queue.proofs.Keeping.{lookup-is}
use Rattle.hc_queue.proofs.order.Order.get.Goals as goal

pub returns : goal.returns
returns g c = rw (← c.self.view_is) (c.get.ensures.value ∙ lookup-is c.args.number c.self.inside.pieces.entries)
