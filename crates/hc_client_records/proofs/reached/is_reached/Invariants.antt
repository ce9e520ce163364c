use Rattle.std.proofs.Common.{◌≡◌, drop, nat_le}
use Rattle.std.specs.List.{list_all}
use Rattle.hc_client_records.proofs.reached.is_reached.Given as goal

-- those that were passed are
abbrev pub invariant-loop-tick : goal.invariant-loop-tick
invariant-loop-tick l = list_all (λ tick. nat_le tick l.now) (drop l.tick-index l.ticks) ≡ list_all (λ tick. nat_le tick l.now) l.ticks
