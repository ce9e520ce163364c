use Rattle.hc_laws.proofs.Finds.{finds}
use Rattle.hc_laws.proofs.laws.find_takes_the_first_case.Goals as goal

pub returns : goal.returns
returns c = finds
