use Rattle.std.proofs.Common.{◌≡◌, drop}
use Rattle.hc_memory.specs.Clean.{has_key}
use Rattle.hc_memory.proofs.groups.place_in.Given as goal

abbrev pub invariant-loop-i : goal.invariant-loop-i
invariant-loop-i g l = has_key l.key (drop l.i l.keys) ≡ has_key l.key l.keys
