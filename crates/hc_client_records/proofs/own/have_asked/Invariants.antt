use Rattle.std.proofs.Common.{◌≡◌, drop, map}
use Rattle.std.specs.List.{list_any}
use Rattle.hc_history.specs.Seen.{op_of}
use Rattle.hc_client_records.specs.Judge as judge
use Rattle.hc_client_records.proofs.own.have_asked.Given as goal

-- none of those that were passed has it
abbrev pub invariant-loop-who : goal.invariant-loop-who
invariant-loop-who g l = list_any (judge.has_asked l.call l.client (op_of l.op)) (map g.T.Recorded.recorded (drop l.who-index l.records)) ≡ list_any (judge.has_asked l.call l.client (op_of l.op)) (map g.T.Recorded.recorded l.records)
