use Rattle.hc_theorem.proofs.runs.LinesAreSteps as by
use Rattle.hc_theorem.proofs.laws.lines_are_steps.Goals as goal

pub returns : goal.returns
returns c = by.lines_are_steps
