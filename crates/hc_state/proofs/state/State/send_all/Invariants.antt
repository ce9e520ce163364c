use Rattle.std.proofs.Common.{◌≡◌, length}
use Rattle.std.specs.Vec.Iter.{into_iter_items, into_iter_len}
use Rattle.hc_state.proofs.set.Supersedes.{Sending}
use Rattle.hc_state.proofs.state.State.send_all.Given as goal

-- the items of the keys that are left go next
abbrev pub invariant-loop-copy : goal.invariant-loop-copy
invariant-loop-copy g l = record {
  sending : Sending l.pool l.want l.fn.keys.items (into_iter_items l.copy-iterator) l.fn.self l.self;
  counted : length (into_iter_items l.copy-iterator) ≡ into_iter_len l.copy-iterator;
}
