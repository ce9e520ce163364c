use Rattle.std.proofs.Common.{◌≡◌, ◌++◌, map, length}
use Rattle.std.specs.Vec.Iter.{into_iter_items, into_iter_len}
use Rattle.hc_nvm.specs.Resting.{waiting_stone}
use Rattle.hc_machine.specs.Nvm.{Nvm}
use Rattle.hc_image.specs.Fitting.{stones_fit}
use Rattle.hc_image.proofs.engines.stones_in.Given as goal

-- those that are buried, and those that are left to come, are all; those that are left can be if all can
abbrev pub invariant-loop-key : goal.invariant-loop-key
invariant-loop-key g l = record {
  stones : ◌≡◌ {A = Nvm} (record l.nvm.nvm { tombstones = l.nvm.nvm.tombstones ++ map waiting_stone (into_iter_items l.key-iterator) }) (record l.fn.nvm.nvm { tombstones = l.fn.nvm.nvm.tombstones ++ map waiting_stone l.fn.keys.items });
  fit : stones_fit l.fn.nvm.nvm.tombstones l.fn.keys.items ≡ stones_fit l.nvm.nvm.tombstones (into_iter_items l.key-iterator);
  counted : length (into_iter_items l.key-iterator) ≡ into_iter_len l.key-iterator;
}
