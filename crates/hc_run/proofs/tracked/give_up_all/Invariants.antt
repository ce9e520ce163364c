use Rattle.std.proofs.Common.{◌≡◌, length}
use Rattle.std.specs.Vec.Iter.{into_iter_items, into_iter_len}
use Rattle.hc_run.proofs.tracked.give_up_all.Given as goal

abbrev pub invariant-loop-slot : goal.invariant-loop-slot
invariant-loop-slot g l = record { len : into_iter_len l.left ≡ length (into_iter_items l.left) }

abbrev pub decreases-loop-slot : goal.decreases-loop-slot
decreases-loop-slot g l = into_iter_len l.left
