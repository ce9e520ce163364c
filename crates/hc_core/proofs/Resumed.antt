-- A cache that goes on with the parts of one that was closed at rest.
use Rattle.std.proofs.Common.{◌≡◌, ◌≤◌, true, List, length, refl, sym, subst, arith}
use Rattle.hc_memory.specs.Item.{Open}
use Rattle.hc_history.specs.Told.{Heard, IfLog}
use Rattle.hc_machine.specs.Cache.{Cache, Owed}
use Rattle.hc_invariant.specs.Structure.{Structured}
use Rattle.hc_theorem.specs.runs.Lock.{Guarded}
use Rattle.hc_state.specs.wait.Begin.{OwesBegun}
use Rattle.hc_state.specs.Resting.{is_at_rest}
use Rattle.hc_state.specs.Whole.{Whole}
use Rattle.hc_state.proofs.Rested.{no-replies, no-charges}
use Rattle.hc_core.specs.Holds.{Holds, AreShort}
use Rattle.hc_core.proofs.Guarding.{guarded-as}

pub resumed-holds : (whole : Whole) (parts : Cache) (heard : Heard) → whole.cache ≡ parts → whole.log ≡ heard → is_at_rest whole.cache ≡ true → Structured parts → IfLog heard (λ log. Guarded parts.config log parts) → Holds whole
resumed-holds whole parts heard is log rests structured guarded =
    let none = no-charges whole.cache rests in
    record {
      structured = subst Structured (sym is) structured;
      begun = subst (λ (owed : List Owed). OwesBegun (record whole.cache { owed = owed })) (sym (no-replies whole.cache rests)) tt;
      ready = subst (λ (charges : List Open). length charges ≤ whole.notes) (sym none) (omega arith);
      short = subst AreShort (sym none) refl;
      guarded = guarded-as heard whole.log parts whole.cache log is guarded;
    }
