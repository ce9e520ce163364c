use Rattle.std.proofs.Common.{is_some, sym, ◌∙◌, ap}
use Rattle.hc_memory.specs.Item.{Item}
use Rattle.hc_memory.specs.Memory.{linked_at}
use Rattle.hc_memory.proofs.Built.{once-seen}
use Rattle.hc_memory.proofs.builder.PoolsBuilder.has_key.Goals as goal

pub returns : goal.returns
returns g c =
    let keys = ap (λ (x : Item). x.key) c.item.view_is in
    rw (← c.self.view_is) (c.has_in.ensures ∙ (λ i. is_some (linked_at (keys i) (c.as_slice.ensures.value i))) ∙ sym (once-seen c.self.inside.flash c.self.inside.marks c.self.inside.pools.items c.self.inside.charges.charges c.self.inside.made c.args.item.now))
