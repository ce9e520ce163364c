use Rattle.hc_theorem.proofs.headlines.WholeRuns as by
use Rattle.hc_theorem.proofs.laws.step_keeps.Goals as goal

pub returns : goal.returns
returns c = by.step_keeps
