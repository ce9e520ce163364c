use Rattle.std.proofs.Common.{◌≡◌, ◌-◌, length, drop}
use Rattle.hc_block.specs.Indexes.{joined}
use Rattle.hc_block.proofs.leads.first_full.Given as goal

-- those that were passed lead nowhere
abbrev pub invariant-loop-at : goal.invariant-loop-at
invariant-loop-at g l = joined (drop l.at l.segments) ≡ joined (drop l.from l.segments)

abbrev pub decreases-loop-at : goal.decreases-loop-at
decreases-loop-at g l = length l.segments - l.at
