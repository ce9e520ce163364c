use Rattle.hc_machine.specs.Call.{Ticks}
use Rattle.hc_tracked.proofs.Tracking.{calmly}
use Rattle.hc_tracked.proofs.tracked.TrackedCore.tick.Goals as goal

pub invariant_of-self : goal.invariant_of-self
invariant_of-self g c = calmly _ _ (Ticks c.args.moment) _ c.self.inside.core _ _ tt c.tick.ensures.ok c.tick.ensures.err c.self.invariant
