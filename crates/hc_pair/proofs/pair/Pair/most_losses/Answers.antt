use Rattle.std.proofs.Common.{◌≡◌, None, sym}
use Rattle.hc_bighash.specs.Handed.{op_in}
use Rattle.hc_pair.proofs.Peeks.{large_loses}
use Rattle.hc_pair.proofs.pair.Pair.most_losses.Goals as goal

pub returns-in-None : goal.returns-in-None
returns-in-None g c =
    let none : op_in c.args.number c.self.inside.small.jobs ≡ None = sym c.in-None.ensures in
    rw (← c.self.view_is) (large_loses c.self.inside.small c.self.inside.large c.args.number c.most_losses.result c.self.invariant none c.most_losses.ensures)
