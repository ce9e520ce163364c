use Rattle.hc_engines.proofs.pair.Passing.{other_stays}
use Rattle.hc_engines.proofs.pair_laws.other_stays.Goals as goal

pub returns : goal.returns
returns c = other_stays
