use Rattle.hc_restart_laws.proofs.Scheduling as by
use Rattle.hc_restart_laws.proofs.laws.schedules_go_on.Goals as goal

pub returns : goal.returns
returns c = by.schedules-go-on
