use Rattle.hc_lease.proofs.Keeping as by
use Rattle.hc_lease.proofs.laws.unchanged_is_fresh.Goals as goal

pub returns : goal.returns
returns c = by.unchanged-fresh
