use Rattle.std.proofs.Common.{refl, ap, ◌∙◌}
use Rattle.hc_history.specs.Told.{where_kept}
use Rattle.hc_state.specs.Whole.{Whole}
use Rattle.hc_state.proofs.state.State.coming_of.Goals as goal

pub returns-in-Ok : goal.returns-in-Ok
returns-in-Ok g c =
    let e = c.in-Ok.ensures in
    record {
      entry_is = λ i. record { key = e.key i; value = e.value i; pool = c.args.entry.now.pool; expiry = c.args.entry.now.expiry };
      count_is = refl;
      copy = e.copy ∙ ap (λ (w : Whole). where_kept w.log c.args.entry.now.key) c.self.view_is;
      leaves = c.in_ok-leaves.ensures;
    }
