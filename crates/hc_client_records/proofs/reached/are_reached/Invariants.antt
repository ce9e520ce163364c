use Rattle.std.proofs.Common.{◌≡◌, drop, map}
use Rattle.std.specs.List.{list_all}
use Rattle.hc_client_records.specs.Judge as judge
use Rattle.hc_client_records.proofs.reached.are_reached.Given as goal

-- those that were passed are
abbrev pub invariant-loop-who : goal.invariant-loop-who
invariant-loop-who g l = list_all (judge.is_reached l.now) (map g.T.Recorded.recorded (drop l.who-index l.records)) ≡ list_all (judge.is_reached l.now) (map g.T.Recorded.recorded l.records)
