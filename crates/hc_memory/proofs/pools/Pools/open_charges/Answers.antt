use Rattle.std.proofs.Common.{arith}
use Rattle.hc_memory.proofs.Few.{few-open}
use Rattle.hc_memory.proofs.pools.Pools.open_charges.Goals as goal

pub returns-clause-most : goal.returns-clause-most
returns-clause-most g c = omega (arith, c.len.ensures, few-open c.self.inside.pools.items c.self.inside.charges.charges c.self.inside.made c.self.invariant.0)
