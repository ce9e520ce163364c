use Rattle.hc_engines.proofs.pair.Passing.{pair_is_told}
use Rattle.hc_engines.proofs.pair_laws.held_is_told.Goals as goal

pub returns : goal.returns
returns c = pair_is_told
