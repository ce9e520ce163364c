use Rattle.hc_machine.specs.Call.{Discards}
use Rattle.hc_tracked.proofs.Tracking.{calmly-so}
use Rattle.hc_tracked.proofs.tracked.TrackedCore.discard.Goals as goal

pub invariant_of-self : goal.invariant_of-self
invariant_of-self g c = calmly-so _ _ (Discards c.args.sealed) _ c.self.inside.core _ _ tt c.discard.ensures.ok c.discard.ensures.err c.self.invariant
