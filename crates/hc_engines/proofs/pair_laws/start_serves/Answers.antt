use Rattle.hc_engines.proofs.pair.Calls.{start_serves}
use Rattle.hc_engines.proofs.pair_laws.start_serves.Goals as goal

pub returns : goal.returns
returns c = start_serves
