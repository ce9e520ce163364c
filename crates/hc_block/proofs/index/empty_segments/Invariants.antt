use Rattle.std.proofs.Common.{◌≡◌, ◌++◌, ◌-◌, [], replicate}
use Rattle.hc_block.proofs.index.empty_segments.Given as goal

-- with those that are still to come, they are all
abbrev pub invariant-loop : goal.invariant-loop
invariant-loop g l = l.segments.items ++ replicate (l.n - l.counter) [] ≡ replicate l.n []
