use Rattle.std.proofs.Common.{◌≡◌, ℕ, Bool, find}
use Rattle.hc_queue.specs.Queue.{Answers, is_free}
use Rattle.hc_queue.proofs.order.first_free.Given as goal

-- what was passed is in busy lanes
abbrev pub invariant-loop-number : goal.invariant-loop-number
invariant-loop-number g l = record {
  can : (goal.iterator-loop-number g).can_next l.number-iterator;
  finite : (goal.iterator-loop-number g).is_finite l.number-iterator;
  passed : (busy : ℕ → Bool) → Answers (goal.F-post g l.is_busy) busy → find (is_free busy l.pieces.entries) l.number-iterator ≡ find (is_free busy l.pieces.entries) l.ready.keys;
}
