use Rattle.std.proofs.Common.{◌≡◌}
use Rattle.hc_queue.specs.Queue.{any_taken}
use Rattle.hc_queue.proofs.order.one_is_taken.Given as goal

-- what was passed isn't taken
abbrev pub invariant-loop-piece : goal.invariant-loop-piece
invariant-loop-piece g l = any_taken l.piece-iterator ≡ any_taken l.pieces.entries
