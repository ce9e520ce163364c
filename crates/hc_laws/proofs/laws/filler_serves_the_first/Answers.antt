use Rattle.hc_laws.proofs.Serves.{filler_serves}
use Rattle.hc_laws.proofs.laws.filler_serves_the_first.Goals as goal

pub returns : goal.returns
returns c = filler_serves
