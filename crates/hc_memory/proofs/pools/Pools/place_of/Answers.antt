use Rattle.std.proofs.Common.{◌∙◌}
use Rattle.hc_memory.specs.Charges.{open_at}
use Rattle.hc_memory.proofs.pools.Pools.place_of.Goals as goal

pub returns : goal.returns
returns g c = rw (← c.self.view_is) (c.place_of.ensures.value ∙ (λ i. open_at (record { number = c.number.ensures i; pool = c.pool.ensures i; key = c.key.ensures i; size = c.len.ensures i }) c.self.inside.charges.charges))
