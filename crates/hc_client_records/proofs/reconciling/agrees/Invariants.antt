use Rattle.std.proofs.Common.{◌≡◌, [], take, drop}
use Rattle.hc_history.specs.Lawful.{past}
use Rattle.hc_client_records.specs.Records.{finished}
use Rattle.hc_client_records.specs.Judge as judge
use Rattle.hc_client_records.proofs.reconciling.agrees.Given as goal

-- the entries that are left are to be what the notes that are left finish
abbrev pub invariant-loop-place : goal.invariant-loop-place
invariant-loop-place l = judge.are_same (finished l.answers.client (past [] (take l.place l.log)) (drop l.place l.log)) l.left ≡ judge.agrees l.log l.answers
