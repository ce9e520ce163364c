use Rattle.hc_engines.proofs.large.OrdersOut.{draining_pinned}
use Rattle.hc_engines.proofs.large_laws.draining_is_pinned.Goals as goal

pub returns : goal.returns
returns c = draining_pinned
