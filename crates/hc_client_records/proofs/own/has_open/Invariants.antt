use Rattle.std.proofs.Common.{◌≡◌, drop}
use Rattle.hc_history.specs.Seen.{op_of}
use Rattle.hc_client_records.specs.Judge as judge
use Rattle.hc_client_records.proofs.own.has_open.Given as goal

-- none of those that were passed is it
abbrev pub invariant-loop-left : goal.invariant-loop-left
invariant-loop-left l = judge.has_open l.call (op_of l.op) (drop l.left-index l.calls) ≡ judge.has_open l.call (op_of l.op) l.calls
