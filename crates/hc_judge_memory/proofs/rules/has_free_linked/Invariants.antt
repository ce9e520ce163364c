use Rattle.std.proofs.Common.{◌≡◌, [], drop}
use Rattle.std.specs.List.{list_any}
use Rattle.hc_history.specs.Lawful.{past}
use Rattle.hc_judge_memory.specs.Evictions.{is_free_linked}
use Rattle.hc_judge_memory.proofs.rules.has_free_linked.Given as goal

-- it is among the rest, if there is one
abbrev pub invariant-loop-charge : goal.invariant-loop-charge
invariant-loop-charge g l = list_any (is_free_linked l.config (past [] l.notes) l.number l.rest) (drop l.charge-index l.live) ≡ list_any (is_free_linked l.config (past [] l.notes) l.number l.rest) l.live
