use Rattle.std.proofs.Common.{◌≡◌, ◌+◌, ◌≤◌, length}
use Rattle.std.specs.Vec.Iter.{into_iter_items, into_iter_len}
use Rattle.hc_history.specs.Told.{told_more}
use Rattle.hc_machine.specs.Cache.{unmarked_by}
use Rattle.hc_machine.specs.Takes.{loss_notes}
use Rattle.hc_nvm.proofs.telling.losses.Given as goal

-- what is told, and what is left to tell, come to all
abbrev pub invariant-loop-loss : goal.invariant-loop-loss
invariant-loop-loss g l = record {
  told : told_more (g.N.Listener.told l.notes) (loss_notes (into_iter_items l.loss-iterator)) ≡ told_more (g.N.Listener.told l.fn.notes) (loss_notes l.fn.losses.items);
  marks : unmarked_by (loss_notes (into_iter_items l.loss-iterator)) l.pools ≡ unmarked_by (loss_notes l.fn.losses.items) l.fn.pools;
  counted : length (into_iter_items l.loss-iterator) ≡ into_iter_len l.loss-iterator;
  room : g.N.Listener.room l.fn.notes + length (into_iter_items l.loss-iterator) ≤ g.N.Listener.room l.notes + length l.fn.losses.items;
}
