use Rattle.std.proofs.Common.{◌≡◌, ◌==◌, [], drop}
use Rattle.hc_types.specs.Tally.{count}
use Rattle.hc_history.specs.Lawful.{past}
use Rattle.hc_judge_memory.specs.Ends as spec
use Rattle.hc_judge_memory.proofs.ends.are_backed.Given as goal

-- one that isn't is among the rest, if there is one
abbrev pub invariant-loop-charge : goal.invariant-loop-charge
invariant-loop-charge g l = (count (spec.is_unbacked l.flash (past [] l.notes)) (drop l.charge-index l.live) == 0) ≡ (count (spec.is_unbacked l.flash (past [] l.notes)) l.live == 0)
