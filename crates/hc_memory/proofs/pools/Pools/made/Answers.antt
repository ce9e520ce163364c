use Rattle.hc_memory.proofs.Restoring.{come-again}
use Rattle.hc_memory.proofs.pools.Pools.made.Goals as goal

pub returns-clause-again : goal.returns-clause-again
returns-clause-again g c = rw (← c.self.view_is) (come-again c.self.inside.flash c.self.inside.marks c.self.inside.pools.items c.self.inside.charges.charges c.self.inside.made c.self.invariant.0)
