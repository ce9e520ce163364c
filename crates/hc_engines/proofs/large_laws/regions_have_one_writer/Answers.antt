use Rattle.hc_engines.proofs.large.OrdersOut.{regions_have_one_writer}
use Rattle.hc_engines.proofs.large_laws.regions_have_one_writer.Goals as goal

pub returns : goal.returns
returns c = regions_have_one_writer
