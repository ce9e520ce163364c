use Rattle.hc_restart_laws.proofs.Serving as by
use Rattle.hc_restart_laws.proofs.laws.nothing_stale.Goals as goal

pub returns : goal.returns
returns c = by.nothing-stale
