use Rattle.std.proofs.Common.{◌≡◌, ◌+◌, ◌≤◌, drop}
use Rattle.hc_history.specs.Lawful.{live_count}
use Rattle.hc_judge_memory.proofs.room.count_in.Given as goal

abbrev pub invariant-loop-charge : goal.invariant-loop-charge
invariant-loop-charge g l = record { few : l.count ≤ l.charge-index; value : l.count + live_count l.pool (drop l.charge-index l.live) ≡ live_count l.pool l.live }
