use Rattle.hc_engines.proofs.large.OrdersOut.{writes_alone}
use Rattle.hc_engines.proofs.large_laws.writes_stand_alone.Goals as goal

pub returns : goal.returns
returns c = writes_alone
