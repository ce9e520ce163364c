use Rattle.std.proofs.Common.{◌≡◌, drop, map}
use Rattle.std.specs.List.{list_any}
use Rattle.hc_client_records.specs.Judge as judge
use Rattle.hc_client_records.proofs.own.have_ticked.Given as goal

-- none of those that were passed has it
abbrev pub invariant-loop-who : goal.invariant-loop-who
invariant-loop-who g l = list_any (judge.has_ticked l.moment) (map g.T.Recorded.recorded (drop l.who-index l.records)) ≡ list_any (judge.has_ticked l.moment) (map g.T.Recorded.recorded l.records)
