use Rattle.std.proofs.Common.{ℕ, ◌<◌, [], get_or}
use Rattle.hc_block.specs.Indexes.{Rises}
use Rattle.hc_block.proofs.index.in_order.Given as goal

-- the hashes of those that were looked at rise
abbrev pub invariant-loop-segment : goal.invariant-loop-segment
invariant-loop-segment g l = (i : ℕ) → i < l.segment-index → Rises (get_or l.segments i [])
