use Rattle.std.proofs.Common.{◌≡◌, ◌++◌, length}
use Rattle.std.specs.Vec.Iter.{into_iter_items, into_iter_len}
use Rattle.hc_types.specs.FlashEntry.{entries_of}
use Rattle.hc_machine.specs.Nvm.{Nvm}
use Rattle.hc_image.specs.Fitting.{puts_fit}
use Rattle.hc_image.proofs.engines.puts_in.Given as goal

-- those that wait, and those that are left to come, are all; those that are left can wait if all can
abbrev pub invariant-loop-put : goal.invariant-loop-put
invariant-loop-put g l = record {
  puts : ◌≡◌ {A = Nvm} (record l.nvm.nvm { queue = l.nvm.nvm.queue ++ entries_of (into_iter_items l.put-iterator) }) (record l.fn.nvm.nvm { queue = l.fn.nvm.nvm.queue ++ entries_of l.fn.puts.items });
  fit : puts_fit l.fn.nvm.nvm.pair.small.flash l.fn.nvm.nvm.queue (entries_of l.fn.puts.items) ≡ puts_fit l.nvm.nvm.pair.small.flash l.nvm.nvm.queue (entries_of (into_iter_items l.put-iterator));
  counted : length (into_iter_items l.put-iterator) ≡ into_iter_len l.put-iterator;
}
