use Rattle.std.proofs.Common.{◌==◌, sym, ◌∙◌, ap}
use Rattle.hc_memory.proofs.Orders.{length-items_of}
use Rattle.hc_memory.proofs.pool.Pool.is_empty.Goals as goal

pub returns : goal.returns
returns g c = rw (← c.self.view_is) (ap (λ n. n == 0) (c.len.ensures.len ∙ sym (length-items_of c.self.inside.cache.entries)))
