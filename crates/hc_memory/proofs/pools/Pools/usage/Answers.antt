use Rattle.std.proofs.Common.{Some, arith, sym, ◌∙◌}
use Rattle.hc_memory.specs.Marks.{is_stale}
use Rattle.hc_memory.proofs.Making.{there-at}
use Rattle.hc_memory.proofs.Marking.{within-marked, there-marked}
use Rattle.hc_memory.proofs.Unmarked.{usage-off}
use Rattle.hc_memory.proofs.pools.Pools.usage.Goals as goal

pub index-pool-requires : goal.index-pool-requires
index-pool-requires g c =
    let lt = within-marked c.self.inside.flash c.self.inside.marks c.self.inside.pools.items c.args.number (rw (← c.self.view_is) at c.requires) in
    omega (arith, lt, c.from.ensures)

pub usage-requires-2 : goal.usage-requires-2
usage-requires-2 g c =
    let lt = within-marked c.self.inside.flash c.self.inside.marks c.self.inside.pools.items c.args.number (rw (← c.self.view_is) at c.requires) in
    omega (arith, lt, c.self.invariant.1)

pub returns : goal.returns
returns g c =
    let lt = within-marked c.self.inside.flash c.self.inside.marks c.self.inside.pools.items c.args.number (rw (← c.self.view_is) at c.requires) in
    let at = there-at c.self.inside.pools.items c.args.number c.from.result c.index-pool.result.now lt c.from.ensures c.index-pool.ensures in
    let there = there-marked c.self.inside.flash c.self.inside.marks c.self.inside.pools.items c.args.number c.index-pool.result.now at in
    let linked = c.usage.ensures ∙ sym (usage-off (is_stale c.self.inside.flash c.self.inside.marks) c.index-pool.result.now.items) in
    rw (← c.self.view_is) (rw there (λ i. Some (record {
      limits = c.size.ensures i;
      linked = linked i;
      open_charges = c.usage-2.ensures i;
    })))
