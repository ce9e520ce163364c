use Rattle.std.proofs.Common.{◌≡◌, nat_lt, drop}
use Rattle.hc_types.specs.Tally.{count}
use Rattle.hc_history.specs.Lawful.{is_charge_of}
use Rattle.hc_judge_memory.proofs.live.has_charge_of.Given as goal

-- it is among the rest, if there is one
abbrev pub invariant-loop-charge : goal.invariant-loop-charge
invariant-loop-charge g l = nat_lt 0 (count (is_charge_of l.number l.key l.pool) (drop l.charge-index l.live)) ≡ nat_lt 0 (count (is_charge_of l.number l.key l.pool) l.live)
