use Rattle.hc_leased.proofs.Ticketing as by
use Rattle.hc_leased.proofs.laws.leased_tickets_hold.Goals as goal

pub returns : goal.returns
returns c = by.leased-tickets-hold
