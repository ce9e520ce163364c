use Rattle.std.proofs.Common.{Some, None, sym, ◌∙◌, subst}
use Rattle.std.specs.Prelude.{IfOk}
use Rattle.std.proofs.lemmas.Result.{IfOk-weaker}
use Rattle.hc_machine.specs.Waiting.{entry_of_handle}
use Rattle.hc_state.specs.store.Plan.{Clears}
use Rattle.hc_state.proofs.wait.NoFlash.{clears-any}
use Rattle.hc_state.proofs.state.State.plan_to_clear_for.Goals as goal

pub returns-then-not-has_flash : goal.returns-then-not-has_flash
returns-then-not-has_flash g c =
    let whole = c.args.self.now in
    let there = Some (entry_of_handle c.args.sealed.now) in
    let bare = sym c.has_flash.ensures ∙ c.if-not-has_flash.true in
    let clears = IfOk-weaker c.plan_to_clear.result _ _ (λ plan by. by None tt) c.plan_to_clear.ensures.clears in
    subst (λ key. IfOk c.plan_to_clear.result (λ plan. Clears key there whole plan)) c.key.ensures (clears-any c.key.result.now there whole c.plan_to_clear.result bare clears)
