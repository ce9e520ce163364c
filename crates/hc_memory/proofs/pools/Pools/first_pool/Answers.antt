use Rattle.std.proofs.Common.{sym, ◌∙◌, ap, arith}
use Rattle.hc_memory.specs.Marks.{is_stale}
use Rattle.hc_memory.specs.Resting.{first_pool}
use Rattle.hc_memory.proofs.HandingOut.{first-of, first-off}
use Rattle.hc_memory.proofs.pools.Pools.first_pool.Goals as goal

pub overflow_cast-number : goal.overflow_cast-number
overflow_cast-number g c =
    let few = c.self.invariant.0.few in
    let first = first-of c.self.inside.pools.items c.in-Some.at (sym (c.in-Some.ensures ∙ ap first_pool c.as_slice.ensures.value)) in
    omega (arith, few, first.within)

pub returns-in-Some : goal.returns-in-Some
returns-in-Some g c = rw (← c.self.view_is) (c.in-Some.ensures ∙ ap first_pool c.as_slice.ensures.value ∙ sym (first-off (is_stale c.self.inside.flash c.self.inside.marks) c.self.inside.pools.items))

pub returns-in-None : goal.returns-in-None
returns-in-None g c = rw (← c.self.view_is) (c.in-None.ensures ∙ ap first_pool c.as_slice.ensures.value ∙ sym (first-off (is_stale c.self.inside.flash c.self.inside.marks) c.self.inside.pools.items))
