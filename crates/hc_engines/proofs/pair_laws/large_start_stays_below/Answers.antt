use Rattle.hc_engines.proofs.pair.Below.{large_start_below}
use Rattle.hc_engines.proofs.pair_laws.large_start_stays_below.Goals as goal

pub returns : goal.returns
returns c = large_start_below
