use Rattle.std.proofs.Common.{◌∙◌, ap, sym}
use Rattle.hc_memory.specs.Memory.{value_at}
use Rattle.hc_memory.specs.Marks.{is_stale}
use Rattle.hc_memory.proofs.Finding.{hit-value, miss-value}
use Rattle.hc_memory.proofs.Unmarked.{value-off}
use Rattle.hc_memory.proofs.pools.Pools.value.Goals as goal

pub returns-in-Ok-Some : goal.returns-in-Ok-Some
returns-in-Ok-Some g c = rw (← c.self.view_is) (hit-value c.in-Ok-Some.field-0 c.in-Ok-Some.field-0-0-0 c.in-Ok-Some.value _ c.in-Ok-Some.field-0-is c.in-Ok-Some.ensures.value ∙ ap (value_at c.args.now c.args.key.now) c.as_slice.ensures.value ∙ sym (value-off (is_stale c.self.inside.flash c.self.inside.marks) c.args.now c.args.key.now c.self.inside.pools.items))

pub returns-in-Ok-None : goal.returns-in-Ok-None
returns-in-Ok-None g c = rw (← c.self.view_is) (miss-value c.in-Ok-None.field-0 _ c.in-Ok-None.field-0-is c.in-Ok-None.ensures.value ∙ ap (value_at c.args.now c.args.key.now) c.as_slice.ensures.value ∙ sym (value-off (is_stale c.self.inside.flash c.self.inside.marks) c.args.now c.args.key.now c.self.inside.pools.items))
