use Rattle.std.proofs.Common.{◌≡◌, ◌==◌, drop}
use Rattle.std.specs.List.{list_any}
use Rattle.hc_client_records.proofs.own.has_ticked.Given as goal

-- none of those that were passed is it
abbrev pub invariant-loop-tick : goal.invariant-loop-tick
invariant-loop-tick l = list_any (λ tick. tick == l.moment) (drop l.tick-index l.ticks) ≡ list_any (λ tick. tick == l.moment) l.ticks
