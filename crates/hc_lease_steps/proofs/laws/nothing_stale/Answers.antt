use Rattle.hc_lease_steps.proofs.Serving as by
use Rattle.hc_lease_steps.proofs.laws.nothing_stale.Goals as goal

pub returns : goal.returns
returns c = by.nothing-stale
