use Rattle.hc_lease_log.proofs.Over as by
use Rattle.hc_lease_log.proofs.laws.fresh_over_log.Goals as goal

pub returns : goal.returns
returns c = by.fresh-over
