use Rattle.hc_theorem.proofs.headlines.WholeRuns as by
use Rattle.hc_theorem.proofs.laws.headline_of_logs.Goals as goal

pub returns : goal.returns
returns c = by.headline_of_logs
