use Rattle.hc_machine.specs.Call.{Discards}
use Rattle.hc_tracked.proofs.Tracking.{calmly-so}
use Rattle.hc_tracked.proofs.tracked.TrackedCore.discard_blank.Goals as goal

pub invariant_of-self : goal.invariant_of-self
invariant_of-self g c = calmly-so _ _ (Discards c.args.blank) _ c.self.inside.core _ _ tt c.discard_blank.ensures.ok c.discard_blank.ensures.err c.self.invariant
