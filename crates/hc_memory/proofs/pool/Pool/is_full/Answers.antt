use Rattle.std.proofs.Common.{sym, ◌∙◌, refl, arith}
use Rattle.hc_memory.specs.Seen.{items_of}
use Rattle.hc_memory.proofs.Orders.{length-items_of}
use Rattle.hc_memory.proofs.Rooms.{full-is}
use Rattle.hc_memory.proofs.pool.Pool.is_full.Goals as goal

pub full-requires-clause-bytes : goal.full-requires-clause-bytes
full-requires-clause-bytes g c = let fits = rw (← c.self.view_is) at c.requires.bytes in omega (arith, fits, c.self.invariant.0)

pub full-requires-clause-items : goal.full-requires-clause-items
full-requires-clause-items g c =
    let number = rw (← c.self.view_is) at c.requires.number in
    omega (arith, number, c.len.ensures.len, length-items_of c.self.inside.cache.entries)

pub returns : goal.returns
returns g c =
    let many = c.len.ensures.len ∙ sym (length-items_of c.self.inside.cache.entries) in
    rw (← c.self.view_is) (c.full.ensures ∙ full-is c.self.inside.size c.self.inside.size c.args.usage c.args.want c.self.inside.bytes c.len.result (items_of c.self.inside.cache.entries) refl c.self.invariant.0 many)
