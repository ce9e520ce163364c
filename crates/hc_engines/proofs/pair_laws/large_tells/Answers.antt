use Rattle.hc_engines.proofs.pair.LargeGets.{large_tells}
use Rattle.hc_engines.proofs.pair_laws.large_tells.Goals as goal

pub returns : goal.returns
returns c = large_tells
