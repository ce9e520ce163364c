use Rattle.std.proofs.Common.{arith}
use Rattle.hc_memory.proofs.Marking.{sound-marked, length-marked}
use Rattle.hc_memory.proofs.pools.Pools.len.Goals as goal

pub returns-clause-value : goal.returns-clause-value
returns-clause-value g c = rw (← c.self.view_is) (omega (arith, c.len.ensures, length-marked c.self.inside.flash c.self.inside.marks c.self.inside.pools.items))

pub returns-clause-sound : goal.returns-clause-sound
returns-clause-sound g c = rw (← c.self.view_is) (sound-marked c.self.inside.flash c.self.inside.marks c.self.inside.pools.items c.self.inside.charges.charges c.self.inside.made c.self.invariant.0)
