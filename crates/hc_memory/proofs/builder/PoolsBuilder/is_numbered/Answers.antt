use Rattle.std.proofs.Common.{nat_le, not, ◌&&◌, ◌∙◌, ap}
use Rattle.hc_memory.specs.Item.{Item}
use Rattle.hc_memory.proofs.Built.{stale-none}
use Rattle.hc_memory.proofs.Unmarking.{bits-fit, buckets-fit}
use Rattle.hc_memory.proofs.builder.PoolsBuilder.is_numbered.Goals as goal

pub is_given-requires-clause-bits : goal.is_given-requires-clause-bits
is_given-requires-clause-bits g c = bits-fit c.self.inside.flash c.self.invariant.2

pub is_given-requires-clause-buckets : goal.is_given-requires-clause-buckets
is_given-requires-clause-buckets g c = buckets-fit c.self.inside.flash c.self.invariant.2

pub returns : goal.returns
returns g c =
    let x : Item = c.args.item.now in
    let lost = stale-none c.self.inside.flash c.self.inside.marks c.args.item.now c.self.invariant.5 in
    rw (← c.self.view_is) (c.is_given.ensures ∙ ap (λ s. nat_le x.number c.self.inside.made && not (x.clean && s)) lost)
