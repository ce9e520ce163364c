use Rattle.hc_engines.proofs.pair.Below.{start_below}
use Rattle.hc_engines.proofs.pair_laws.start_stays_below.Goals as goal

pub returns : goal.returns
returns c = start_below
