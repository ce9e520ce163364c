use Rattle.hc_engines.proofs.pair.Apart.{pair_start_apart}
use Rattle.hc_engines.proofs.pair_laws.start_stays_apart.Goals as goal

pub returns : goal.returns
returns c = pair_start_apart
