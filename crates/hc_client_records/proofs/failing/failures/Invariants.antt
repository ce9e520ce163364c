use Rattle.std.proofs.Common.{◌≡◌, ◌+◌, ◌≤◌, drop}
use Rattle.hc_client_records.specs.Records as records
use Rattle.hc_client_records.proofs.failing.failures.Given as goal

abbrev pub invariant-loop-note : goal.invariant-loop-note
invariant-loop-note l = record { few : l.count ≤ l.note-index; value : l.count + records.failures (drop l.note-index l.log) ≡ records.failures l.log }
