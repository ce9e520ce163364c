use Rattle.hc_machine.specs.Call.{Removes}
use Rattle.hc_tracked.proofs.Tracking.{calmly}
use Rattle.hc_tracked.proofs.tracked.TrackedCore.remove.Goals as goal

pub invariant_of-self : goal.invariant_of-self
invariant_of-self g c = calmly _ _ (Removes c.args.client c.args.key.now) _ c.self.inside.core _ _ tt c.remove.ensures.ok c.remove.ensures.err c.self.invariant
