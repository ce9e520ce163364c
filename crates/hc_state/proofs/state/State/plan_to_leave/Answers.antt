use Rattle.std.proofs.Common.{map, ap, ◌∙◌}
use Rattle.std.proofs.lemmas.Result.{IfOk-weaker}
use Rattle.hc_state.specs.allocate.Evict.{leave_of}
use Rattle.hc_state.proofs.state.State.plan_to_leave.Goals as goal

pub returns : goal.returns
returns g c =
    let f = c.self.inside in
    rw (← c.self.view_is) (IfOk-weaker c.plan_leaves.result _ _ (λ leaves made flash. made ∙ ap (map (leave_of (g.N.Listener.told f.notes))) c.in_ok-keys.ensures) c.plan_leaves.ensures)
