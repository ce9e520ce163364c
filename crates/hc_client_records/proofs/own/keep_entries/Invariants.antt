use Rattle.std.proofs.Common.{List}
use Rattle.std.specs.Ordering.{nat_cmp}
use Rattle.std.specs.BTreeMap.{get}
use Rattle.hc_client_records.specs.Records.{Record}
use Rattle.hc_client_records.specs.Walk.{AreTheirs, IsAmong}
use Rattle.hc_client_records.proofs.own.keep_entries.Given as goal

abbrev pub invariant-loop-entry : goal.invariant-loop-entry
invariant-loop-entry l = (records : List Record) → IsAmong l.did records → AreTheirs (get nat_cmp l.initial.calls) records → AreTheirs (get nat_cmp l.calls) records
