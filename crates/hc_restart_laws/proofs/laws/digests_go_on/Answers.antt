use Rattle.hc_restart_laws.proofs.Marking as by
use Rattle.hc_restart_laws.proofs.laws.digests_go_on.Goals as goal

pub returns : goal.returns
returns c = by.digests-go-on
