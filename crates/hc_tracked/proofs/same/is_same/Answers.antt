use Rattle.std.proofs.Common.{◌≡◌, subst}
use Rattle.std.specs.Bool.{Decides}
use Rattle.hc_types.specs.Config.{Config}
use Rattle.hc_tracked.proofs.Alike.{both-hold, one-fails}
use Rattle.hc_tracked.proofs.same.is_same.Goals as goal

-- `viewed` is the record of the fields inside; view_is takes it to the model's value
pub returns-then-eq : goal.returns-then-eq
returns-then-eq g c = subst (λ (b : Config). Decides c.eq-then-eq.result (c.args.a.now ≡ b)) c.b.view_is (subst (λ (a : Config). Decides c.eq-then-eq.result (a ≡ record { pools = c.b.inside.pools.items; flash = c.b.inside.flash })) c.a.view_is (both-hold _ _ c.eq.result c.eq-then-eq.result c.eq.ensures c.if-eq.true c.eq-then-eq.ensures))

pub returns-else-eq : goal.returns-else-eq
returns-else-eq g c = subst (λ (b : Config). Decides c.eq.result (c.args.a.now ≡ b)) c.b.view_is (subst (λ (a : Config). Decides c.eq.result (a ≡ record { pools = c.b.inside.pools.items; flash = c.b.inside.flash })) c.a.view_is (one-fails _ _ c.eq.result c.eq.ensures c.if-eq.false))
