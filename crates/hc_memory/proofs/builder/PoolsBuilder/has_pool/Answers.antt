use Rattle.std.proofs.Common.{◌≡◌, nat_lt, length, ◌∙◌, ap, arith}
use Rattle.hc_memory.specs.Item.{Item}
use Rattle.hc_memory.specs.Marks.{marked}
use Rattle.hc_memory.proofs.Marking.{length-marked}
use Rattle.hc_memory.proofs.builder.PoolsBuilder.has_pool.Goals as goal

pub returns : goal.returns
returns g c =
    let own = c.from.ensures ∙ ap (λ (x : Item). x.pool) c.item.view_is in
    let long = length-marked c.self.inside.flash c.self.inside.marks c.self.inside.pools.items in
    let many : c.len.result ≡ length (marked c.self.inside.flash c.self.inside.marks c.self.inside.pools.items) = omega (arith, c.len.ensures, c.self.inside.pools.ok.0, long) in
    rw (← c.self.view_is) (λ i. nat_lt (own i) (many i))
