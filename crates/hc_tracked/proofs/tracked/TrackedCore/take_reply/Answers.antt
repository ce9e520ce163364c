use Rattle.hc_machine.specs.Call.{Replies}
use Rattle.hc_tracked.proofs.Tracking.{calmly}
use Rattle.hc_tracked.proofs.tracked.TrackedCore.take_reply.Goals as goal

pub invariant_of-self : goal.invariant_of-self
invariant_of-self g c = calmly _ _ (Replies c.args.call) _ c.self.inside.core _ _ tt c.take_reply.ensures.ok c.take_reply.ensures.err c.self.invariant
