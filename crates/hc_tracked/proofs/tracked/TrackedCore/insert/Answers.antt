use Rattle.hc_machine.specs.Call.{Adds}
use Rattle.hc_tracked.proofs.Tracking.{calmly}
use Rattle.hc_tracked.proofs.tracked.TrackedCore.insert.Goals as goal

pub invariant_of-self : goal.invariant_of-self
invariant_of-self g c = calmly _ _ (Adds c.args.client c.args.sealed) _ c.self.inside.core _ _ tt c.insert.ensures.ok c.insert.ensures.err c.self.invariant
