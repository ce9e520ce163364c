use Rattle.std.proofs.Common.{◌≡◌, Some, arith, slice_get}
use Rattle.std.proofs.lemmas.Option.{slice_get_within}
use Rattle.hc_memory.proofs.Places.{same_removed}
use Rattle.hc_memory.proofs.Unmarking.{eq-turn}
use Rattle.hc_memory.proofs.Grouped.{stays}
use Rattle.hc_memory.proofs.groups.take_out.Goals as goal

pub returns-in-Some : goal.returns-in-Some
returns-in-Some g c = λ k other h.
    let items = c.args.keys.now.items in
    let found : slice_get items c.in-Some.at ≡ Some c.args.key.now = rw (← c.as_slice.ensures.value) c.in-Some.ensures.some in
    let within = slice_get_within items c.in-Some.at c.args.key.now found in
    let same = same_removed items c.in-Some.at c.swap_remove.result c.args.key.now (omega (arith, within)) in
    rw (c.swap_remove.ensures.items, same) (stays k items c.in-Some.at c.args.key.now found (eq-turn c.args.key.now k other) h)
