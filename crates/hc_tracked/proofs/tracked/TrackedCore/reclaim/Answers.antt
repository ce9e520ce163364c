use Rattle.hc_machine.specs.Call.{Reclaims}
use Rattle.hc_tracked.proofs.Tracking.{calmly}
use Rattle.hc_tracked.proofs.tracked.TrackedCore.reclaim.Goals as goal

pub invariant_of-self : goal.invariant_of-self
invariant_of-self g c = calmly _ _ Reclaims _ c.self.inside.core _ _ tt c.reclaim.ensures.ok c.reclaim.ensures.err c.self.invariant
