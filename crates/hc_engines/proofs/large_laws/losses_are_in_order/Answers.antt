use Rattle.hc_engines.proofs.large.OrdersOut.{losses_in_order}
use Rattle.hc_engines.proofs.large_laws.losses_are_in_order.Goals as goal

pub returns : goal.returns
returns c = losses_in_order
