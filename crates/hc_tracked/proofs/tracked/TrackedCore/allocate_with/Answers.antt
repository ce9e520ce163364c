use Rattle.hc_memory.specs.Seen.{filled}
use Rattle.hc_machine.specs.Call.{Allocates}
use Rattle.hc_tracked.proofs.Tracking.{calmly}
use Rattle.hc_tracked.proofs.tracked.TrackedCore.allocate_with.Goals as goal

pub invariant_of-self : goal.invariant_of-self
invariant_of-self g c = calmly _ _ (Allocates c.args.pool c.args.key (filled c.args.fill) c.args.ttl) _ c.self.inside.core _ _ tt c.allocate_with.ensures.ok c.allocate_with.ensures.err c.self.invariant
