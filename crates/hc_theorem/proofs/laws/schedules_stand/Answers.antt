use Rattle.hc_theorem.proofs.headlines.WholeRuns as by
use Rattle.hc_theorem.proofs.laws.schedules_stand.Goals as goal

pub returns : goal.returns
returns c = by.schedules_stand
