use Rattle.std.proofs.Common.{◌≡◌, nat_lt, drop}
use Rattle.std.specs.Prelude.{not, ◌&&◌}
use Rattle.hc_types.specs.Tally.{count}
use Rattle.hc_history.specs.Books.{Charge, has_number}
use Rattle.hc_judge_memory.proofs.live.has_open.Given as goal

-- it is among the rest, if there is one
abbrev pub invariant-loop-charge : goal.invariant-loop-charge
invariant-loop-charge g l = nat_lt 0 (count (λ (charge : Charge). has_number l.number charge && not charge.linked) (drop l.charge-index l.live)) ≡ nat_lt 0 (count (λ (charge : Charge). has_number l.number charge && not charge.linked) l.live)
