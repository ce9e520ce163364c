use Rattle.std.proofs.Common.{sym, ◌∙◌}
use Rattle.hc_memory.proofs.Orders.{length-items_of}
use Rattle.hc_memory.proofs.pool.Pool.usage.Goals as goal

pub returns : goal.returns
returns g c =
    let many = c.len.ensures.len ∙ sym (length-items_of c.self.inside.cache.entries) in
    rw (← c.self.view_is) (λ i. record { bytes = c.self.invariant.0 i; number = many i })
