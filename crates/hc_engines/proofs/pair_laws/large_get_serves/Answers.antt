use Rattle.hc_engines.proofs.pair.LargeGets.{large_get_serves}
use Rattle.hc_engines.proofs.pair_laws.large_get_serves.Goals as goal

pub returns : goal.returns
returns c = large_get_serves
