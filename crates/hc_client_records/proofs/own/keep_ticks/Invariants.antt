use Rattle.std.proofs.Common.{List}
use Rattle.std.specs.Ordering.{nat_cmp}
use Rattle.std.specs.BTreeSet.{contains}
use Rattle.hc_client_records.specs.Records.{Record}
use Rattle.hc_client_records.specs.Walk.{AreTicks, IsAmong}
use Rattle.hc_client_records.proofs.own.keep_ticks.Given as goal

abbrev pub invariant-loop-tick : goal.invariant-loop-tick
invariant-loop-tick l = (records : List Record) → IsAmong l.did records → AreTicks (λ m. contains nat_cmp l.initial.ticks m) records → AreTicks (λ m. contains nat_cmp l.ticks m) records
