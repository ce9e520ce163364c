use Rattle.hc_theorem.proofs.headlines.WholeRuns as by
use Rattle.hc_theorem.proofs.laws.headline.Goals as goal

pub returns : goal.returns
returns c = by.headline
