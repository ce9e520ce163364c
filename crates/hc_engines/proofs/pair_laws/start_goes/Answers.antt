use Rattle.hc_engines.proofs.pair.Going.{pair_start_goes}
use Rattle.hc_engines.proofs.pair_laws.start_goes.Goals as goal

pub returns : goal.returns
returns c = pair_start_goes
