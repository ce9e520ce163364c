use Rattle.std.proofs.Common.{sym}
use Rattle.hc_memory.specs.Charges.{has_number}
use Rattle.hc_memory.proofs.Ending.{position-below, closed-there}
use Rattle.hc_memory.proofs.open.OpenCharges.end.Goals as goal

pub end_at-requires : goal.end_at-requires
end_at-requires g c = position-below (has_number c.args.number) c.args.self.now.charges c.in-Some.place (sym c.in-Some.ensures)

pub returns-in-Some : goal.returns-in-Some
returns-in-Some g c = closed-there c.args.number c.args.self.now c.end_at.new.self c.in-Some.place (sym c.in-Some.ensures) c.end_at.ensures
