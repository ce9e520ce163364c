use Rattle.std.proofs.Common.{◌≡◌, drop, map}
use Rattle.std.specs.List.{list_all}
use Rattle.hc_client_records.specs.Judge as judge
use Rattle.hc_client_records.proofs.reconciling.agree_each.Given as goal

abbrev pub invariant-loop-who : goal.invariant-loop-who
invariant-loop-who g l = list_all (judge.agrees l.log) (map g.T.Recorded.recorded (drop l.who-index l.records)) ≡ list_all (judge.agrees l.log) (map g.T.Recorded.recorded l.records)
