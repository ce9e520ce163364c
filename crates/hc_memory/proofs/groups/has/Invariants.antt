use Rattle.std.proofs.Common.{◌≡◌, drop}
use Rattle.hc_memory.specs.Clean.{has_key}
use Rattle.hc_memory.proofs.groups.has.Given as goal

abbrev pub invariant-loop-k : goal.invariant-loop-k
invariant-loop-k g l = has_key l.key (drop l.k-index l.keys) ≡ has_key l.key l.keys
