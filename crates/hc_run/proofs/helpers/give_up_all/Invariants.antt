use Rattle.std.proofs.Common.{◌≡◌, ◌-◌, ◌≤◌, length}
use Rattle.std.specs.Vec.Iter.{into_iter_items, into_iter_len}
use Rattle.hc_history.specs.Told.{told_more}
use Rattle.hc_machine.specs.Schedule.{given_up}
use Rattle.hc_run.specs.Shows.{AreOwn}
use Rattle.hc_run.specs.Slots.{filled_from}
use Rattle.hc_run.proofs.helpers.give_up_all.Given as goal

-- the rest is given up after the log, and is the cache's own
abbrev pub invariant-loop-slot : goal.invariant-loop-slot
invariant-loop-slot g l = record {
  log : told_more l.core.log (given_up (filled_from (256 - length (into_iter_items l.left)) (into_iter_items l.left)) l.core.cache).part ≡ told_more l.fn.core.log (given_up (filled_from 0 l.fn.slots.items) l.fn.core.cache).part;
  own : AreOwn (filled_from (256 - length (into_iter_items l.left)) (into_iter_items l.left)) l.core.cache;
  len : into_iter_len l.left ≡ length (into_iter_items l.left);
  most : length (into_iter_items l.left) ≤ 256;
}

abbrev pub decreases-loop-slot : goal.decreases-loop-slot
decreases-loop-slot g l = into_iter_len l.left
