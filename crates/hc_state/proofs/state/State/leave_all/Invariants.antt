use Rattle.std.proofs.Common.{◌≡◌, length}
use Rattle.std.specs.Vec.Iter.{into_iter_items, into_iter_len}
use Rattle.hc_state.specs.allocate.Evict.{AreFor, keys_of}
use Rattle.hc_state.proofs.allocate.Evicts.{Left}
use Rattle.hc_state.proofs.state.State.leave_all.Given as goal

-- what these items leave is what all do, and what is prepared is for them
abbrev pub invariant-loop-item : goal.invariant-loop-item
invariant-loop-item g l = record {
  left : Left l.pool l.want l.fn.victims.items (into_iter_items l.item-iterator) l.fn.self l.self;
  counted : length (into_iter_items l.item-iterator) ≡ into_iter_len l.item-iterator;
  prepared : AreFor l.self (keys_of (into_iter_items l.item-iterator)) (into_iter_items l.prepared);
  prepared_counted : length (into_iter_items l.prepared) ≡ into_iter_len l.prepared;
}
