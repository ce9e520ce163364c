use Rattle.std.proofs.Common.{◌≡◌, drop, map}
use Rattle.std.specs.List.{list_all}
use Rattle.std.specs.Ordering.{nat_cmp}
use Rattle.std.specs.BTreeMap.{get}
use Rattle.std.specs.BTreeSet.{contains}
use Rattle.hc_client_records.specs.Judge as judge
use Rattle.hc_client_records.specs.Walk.{AreTheirs, AreTicks}
use Rattle.hc_client_records.proofs.own.are_own.Given as goal

-- what is kept so far is some client's own
abbrev pub invariant-loop-who : goal.invariant-loop-who
invariant-loop-who g l = record {
  calls : AreTheirs (get nat_cmp l.calls) (map g.T.Recorded.recorded l.records);
  ticks : AreTicks (λ m. contains nat_cmp l.ticks m) (map g.T.Recorded.recorded l.records);
}

-- the notes that were passed are
abbrev pub invariant-loop-note : goal.invariant-loop-note
invariant-loop-note g l = list_all (judge.is_own (map g.T.Recorded.recorded l.records)) (drop l.note-index l.log) ≡ list_all (judge.is_own (map g.T.Recorded.recorded l.records)) l.log
