use Rattle.std.proofs.Common.{◌≡◌, nat_lt, drop}
use Rattle.hc_types.specs.Tally.{count}
use Rattle.hc_history.specs.Books.{is_linked}
use Rattle.hc_judge_memory.proofs.live.has_linked.Given as goal

-- it is among the rest, if there is one
abbrev pub invariant-loop-charge : goal.invariant-loop-charge
invariant-loop-charge g l = nat_lt 0 (count (is_linked l.key) (drop l.charge-index l.live)) ≡ nat_lt 0 (count (is_linked l.key) l.live)
