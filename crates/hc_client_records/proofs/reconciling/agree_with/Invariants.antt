use Rattle.std.proofs.Common.{◌≡◌, List, drop, map}
use Rattle.std.specs.List.{list_all}
use Rattle.hc_history.specs.Note.{Note}
use Rattle.hc_client_records.specs.Judge as judge
use Rattle.hc_client_records.specs.Walk.{AreFinished}
use Rattle.hc_client_records.proofs.reconciling.agree_with.Given as goal

abbrev pub invariant-loop-who : goal.invariant-loop-who
invariant-loop-who g l = (log : List Note) → AreFinished l.clients log → list_all (judge.agrees log) (map g.T.Recorded.recorded (drop l.who-index l.records)) ≡ list_all (judge.agrees log) (map g.T.Recorded.recorded l.records)
