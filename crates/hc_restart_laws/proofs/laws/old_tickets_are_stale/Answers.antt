use Rattle.hc_restart_laws.proofs.Ticketing as by
use Rattle.hc_restart_laws.proofs.laws.old_tickets_are_stale.Goals as goal

pub returns : goal.returns
returns c = by.old-stale
