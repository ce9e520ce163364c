use Rattle.std.proofs.Common.{arith}
use Rattle.hc_memory.proofs.Sounds.{sound-fewer}
use Rattle.hc_memory.proofs.Places.{tally-removed, there-at}
use Rattle.hc_memory.proofs.pools.Pools.free_at.Goals as goal

pub invariant_of-self : goal.invariant_of-self
invariant_of-self g c =
    let i = c.self.invariant in
    let within = rw (← c.self.view_is) at c.requires in
    let x = there-at c.self.inside.charges.charges c.args.place within in
    rw (c.end_at.ensures x.0 x.1) (sound-fewer c.self.inside.pools.items c.self.inside.charges.charges _ c.self.inside.made i.0 (λ f. omega (arith, tally-removed f c.self.inside.charges.charges c.args.place x.0 x.1)), i.1, i.2, i.3, i.4)
