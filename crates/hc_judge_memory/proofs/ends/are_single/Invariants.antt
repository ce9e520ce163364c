use Rattle.std.proofs.Common.{◌≡◌, drop}
use Rattle.std.specs.List.{list_all}
use Rattle.hc_judge_memory.specs.Ends as spec
use Rattle.hc_judge_memory.proofs.ends.are_single.Given as goal

-- one that isn't is among the rest, if there is one
abbrev pub invariant-loop-charge : goal.invariant-loop-charge
invariant-loop-charge g l = list_all (spec.is_single l.live) (drop l.charge-index l.live) ≡ list_all (spec.is_single l.live) l.live
