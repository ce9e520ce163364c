use Rattle.std.proofs.Common.{◌≡◌, ◌==◌, drop}
use Rattle.hc_types.specs.Tally.{count}
use Rattle.hc_history.specs.Books.{has_number}
use Rattle.hc_judge_memory.proofs.live.is_free.Given as goal

-- it is among the rest, if there is one
abbrev pub invariant-loop-charge : goal.invariant-loop-charge
invariant-loop-charge g l = (count (has_number l.number) (drop l.charge-index l.live) == 0) ≡ (count (has_number l.number) l.live == 0)
