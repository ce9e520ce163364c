use Rattle.std.proofs.Common.{◌≡◌, drop}
use Rattle.hc_history.specs.Seen.{op_of}
use Rattle.hc_client_records.specs.Judge as judge
use Rattle.hc_client_records.proofs.own.has_entry.Given as goal

-- none of those that were passed is it
abbrev pub invariant-loop-entry : goal.invariant-loop-entry
invariant-loop-entry l = judge.has_entry l.call (op_of l.op) (drop l.entry-index l.entries) ≡ judge.has_entry l.call (op_of l.op) l.entries
