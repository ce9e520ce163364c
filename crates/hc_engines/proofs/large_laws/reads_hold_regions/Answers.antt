use Rattle.hc_engines.proofs.large.OrdersOut.{reads_hold}
use Rattle.hc_engines.proofs.large_laws.reads_hold_regions.Goals as goal

pub returns : goal.returns
returns c = reads_hold
