use Rattle.hc_restart_laws.proofs.Running as by
use Rattle.hc_restart_laws.proofs.laws.runs_are_one.Goals as goal

pub returns : goal.returns
returns c = by.runs-are-one
