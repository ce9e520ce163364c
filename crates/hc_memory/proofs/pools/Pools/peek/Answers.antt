use Rattle.std.proofs.Common.{◌∙◌, refl, ap, sym}
use Rattle.std.specs.Prelude.{option_map}
use Rattle.hc_memory.specs.Seen.{glance_of}
use Rattle.hc_memory.specs.Memory.{linked_at}
use Rattle.hc_memory.specs.Marks.{is_stale}
use Rattle.hc_memory.proofs.Unmarked.{pools-found}
use Rattle.hc_memory.proofs.pools.Pools.peek.Goals as goal

pub returns-in-Some : goal.returns-in-Some
returns-in-Some g c = rw (← c.self.view_is) (ap (option_map glance_of) (c.in-Some.ensures.item ∙ ap (linked_at c.args.key.now) c.as_slice.ensures.value) ∙ sym (pools-found (is_stale c.self.inside.flash c.self.inside.marks) glance_of (λ x. refl) c.args.key.now c.self.inside.pools.items))

pub returns-in-None : goal.returns-in-None
returns-in-None g c = rw (← c.self.view_is) (ap (option_map glance_of) (c.in-None.ensures.item ∙ ap (linked_at c.args.key.now) c.as_slice.ensures.value) ∙ sym (pools-found (is_stale c.self.inside.flash c.self.inside.marks) glance_of (λ x. refl) c.args.key.now c.self.inside.pools.items))
