use Rattle.hc_theorem.proofs.headlines.WholeRuns as by
use Rattle.hc_theorem.proofs.laws.honest_finish.Goals as goal

pub returns : goal.returns
returns c = by.honest_finish
