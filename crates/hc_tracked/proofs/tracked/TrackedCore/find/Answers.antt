use Rattle.hc_machine.specs.Call.{Finds}
use Rattle.hc_tracked.proofs.Tracking.{calmly}
use Rattle.hc_tracked.proofs.tracked.TrackedCore.find.Goals as goal

pub invariant_of-self : goal.invariant_of-self
invariant_of-self g c = calmly _ _ (Finds c.args.client c.args.key.now) _ c.self.inside.core _ _ tt c.find.ensures.ok c.find.ensures.err c.self.invariant
