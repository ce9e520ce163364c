use Rattle.std.proofs.Common.{ap, ◌∙◌}
use Rattle.hc_memory.specs.Clean.{has_key, is_under}
use Rattle.hc_memory.proofs.Grouped.{stays-other}
use Rattle.hc_memory.proofs.groups.take_out_under.Goals as goal

pub loop-preserved : goal.loop-preserved
loop-preserved g c = λ k other h.
    ap (has_key k) c.swap_remove.ensures.items
    ∙ stays-other (is_under c.args.bits c.args.hash c.args.but.now) k c.loop.keys.items c.in-Some.at c.swap_remove.result (rw (← c.as_slice.ensures.value) c.in-Some.ensures) other (c.loop.invariant k other h)
