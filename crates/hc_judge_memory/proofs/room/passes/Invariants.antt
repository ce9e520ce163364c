use Rattle.std.proofs.Common.{◌≡◌, ◌+◌, nat_lt, drop}
use Rattle.hc_history.specs.Lawful.{live_bytes}
use Rattle.hc_judge_memory.proofs.room.passes.Given as goal

-- whether the bytes of the rest are more than what is left
abbrev pub invariant-loop-charge : goal.invariant-loop-charge
invariant-loop-charge g l = nat_lt l.left (live_bytes l.pool (drop l.charge-index l.live)) ≡ nat_lt l.limit (live_bytes l.pool l.live + l.want)
