use Rattle.hc_engines.proofs.pair.LargeGets.{large_stays}
use Rattle.hc_engines.proofs.pair_laws.large_stays.Goals as goal

pub returns : goal.returns
returns c = large_stays
