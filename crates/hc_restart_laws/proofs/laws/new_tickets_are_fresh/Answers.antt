use Rattle.hc_restart_laws.proofs.Ticketing as by
use Rattle.hc_restart_laws.proofs.laws.new_tickets_are_fresh.Goals as goal

pub returns : goal.returns
returns c = by.new-fresh
