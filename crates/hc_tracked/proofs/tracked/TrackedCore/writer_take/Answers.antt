use Rattle.hc_machine.specs.Call.{Writes}
use Rattle.hc_tracked.proofs.Tracking.{calmly}
use Rattle.hc_tracked.proofs.tracked.TrackedCore.writer_take.Goals as goal

pub invariant_of-self : goal.invariant_of-self
invariant_of-self g c = calmly _ _ Writes _ c.self.inside.core _ _ tt c.writer_take.ensures.ok c.writer_take.ensures.err c.self.invariant
