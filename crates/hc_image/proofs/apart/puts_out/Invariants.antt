use Rattle.std.proofs.Common.{◌≡◌, ◌++◌, drop}
use Rattle.hc_types.specs.FlashEntry.{entries_of}
use Rattle.hc_image.proofs.apart.puts_out.Given as goal

-- what was taken out, and what is left of the queue, are the queue
abbrev pub invariant-loop : goal.invariant-loop
invariant-loop g l = record {
  puts : entries_of l.puts.items ++ drop l.counter l.fn.nvm.nvm.queue ≡ l.fn.nvm.nvm.queue;
  nvm : l.nvm.nvm ≡ record l.fn.nvm.nvm { queue = drop l.counter l.fn.nvm.nvm.queue };
}
