use Rattle.std.proofs.Common.{◌≡◌, ◌++◌, take, drop, map}
use Rattle.hc_state.specs.fill.Link.{marked_by}
use Rattle.hc_state.proofs.fill.mark.mark_all.Given as goal

abbrev pub invariant-loop-item : goal.invariant-loop-item
invariant-loop-item g l = take l.item-index l.item-items ++ map (marked_by l.flash l.losses) (drop l.item-index l.item-items) ≡ map (marked_by l.flash l.losses) l.fn.items.items
