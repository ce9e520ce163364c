use Rattle.std.proofs.Common.{◌≡◌, drop}
use Rattle.hc_client_records.specs.Judge as judge
use Rattle.hc_client_records.proofs.reconciling.are_entries.Given as goal

-- the entries that are left are to be the calls that are left
abbrev pub invariant-loop-finished : goal.invariant-loop-finished
invariant-loop-finished l = judge.are_same (drop l.finished-index l.calls) l.left ≡ judge.are_same l.calls l.entries
