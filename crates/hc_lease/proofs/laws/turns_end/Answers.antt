use Rattle.hc_lease.proofs.Turning as by
use Rattle.hc_lease.proofs.laws.turns_end.Goals as goal

pub returns : goal.returns
returns c = by.turns-end
