use Rattle.std.proofs.Common.{◌≡◌, ◌++◌, drop}
use Rattle.hc_image.specs.Saved.{keys_of}
use Rattle.hc_image.proofs.apart.keys_out.Given as goal

-- what was taken out, and what is left of the line, are the line
abbrev pub invariant-loop : goal.invariant-loop
invariant-loop g l = record {
  keys : l.keys.items ++ keys_of (drop l.counter l.fn.nvm.nvm.tombstones) ≡ keys_of l.fn.nvm.nvm.tombstones;
  nvm : l.nvm.nvm ≡ record l.fn.nvm.nvm { tombstones = drop l.counter l.fn.nvm.nvm.tombstones };
}
