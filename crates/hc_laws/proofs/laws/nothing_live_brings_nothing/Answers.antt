use Rattle.hc_laws.proofs.Fills.{nothing_live}
use Rattle.hc_laws.proofs.laws.nothing_live_brings_nothing.Goals as goal

pub returns : goal.returns
returns c = nothing_live
