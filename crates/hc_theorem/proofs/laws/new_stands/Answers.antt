use Rattle.hc_theorem.proofs.headlines.WholeRuns as by
use Rattle.hc_theorem.proofs.laws.new_stands.Goals as goal

pub returns : goal.returns
returns c = by.new_stands
