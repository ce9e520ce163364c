use Rattle.hc_run.proofs.Promising as by
use Rattle.hc_run.proofs.laws.runs_stand.Goals as goal

pub returns : goal.returns
returns c = by.runs_stand
