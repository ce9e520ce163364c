use Rattle.std.proofs.Common.{◌≡◌, ◌+◌, ◌≤◌, drop}
use Rattle.hc_types.specs.Tally.{count}
use Rattle.hc_history.specs.Books.{is_linked}
use Rattle.hc_judge_memory.proofs.ends.linked_count.Given as goal

abbrev pub invariant-loop-charge : goal.invariant-loop-charge
invariant-loop-charge g l = record { few : l.count ≤ l.charge-index; value : l.count + count (is_linked l.key) (drop l.charge-index l.live) ≡ count (is_linked l.key) l.live }
