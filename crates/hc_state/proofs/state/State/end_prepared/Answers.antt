use Rattle.std.proofs.Common.{subst}
use Rattle.hc_state.specs.fill.Plan.{IsPrepared}
use Rattle.hc_state.proofs.state.State.end_prepared.Goals as goal

pub returns-in-Item : goal.returns-in-Item
returns-in-Item g c =
    λ old can prepared. c.end_item.ensures old can (subst (λ plan. IsPrepared c.args.key.now c.args.ending plan old c.args.self.now) c.in-Item.is prepared)
