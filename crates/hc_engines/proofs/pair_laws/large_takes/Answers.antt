use Rattle.hc_engines.proofs.pair.LargeGets.{large_takes}
use Rattle.hc_engines.proofs.pair_laws.large_takes.Goals as goal

pub returns : goal.returns
returns c = large_takes
