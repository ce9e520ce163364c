use Rattle.hc_run.proofs.Promising as by
use Rattle.hc_run.proofs.laws.chains_are_runs.Goals as goal

pub returns : goal.returns
returns c = by.chains_are_runs
