use Rattle.hc_tracked.proofs.Tracking.{same}
use Rattle.hc_tracked.proofs.tracked.TrackedCore.filler_has_work.Goals as goal

pub invariant_of-self : goal.invariant_of-self
invariant_of-self g c = same _ _ _ _ c.filler_has_work.ensures.same c.self.invariant
