use Rattle.hc_machine.specs.Call.{Fills}
use Rattle.hc_tracked.proofs.Tracking.{calmly}
use Rattle.hc_tracked.proofs.tracked.TrackedCore.filler_take.Goals as goal

pub invariant_of-self : goal.invariant_of-self
invariant_of-self g c = calmly _ _ Fills _ c.self.inside.core _ _ tt c.filler_take.ensures.ok c.filler_take.ensures.err c.self.invariant
