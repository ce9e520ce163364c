use Rattle.hc_laws.proofs.Fills.{gets_end}
use Rattle.hc_laws.proofs.laws.gets_end_their_fill.Goals as goal

pub returns : goal.returns
returns c = gets_end
