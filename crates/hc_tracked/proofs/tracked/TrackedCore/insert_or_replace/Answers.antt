use Rattle.hc_machine.specs.Call.{Inserts}
use Rattle.hc_tracked.proofs.Tracking.{calmly-so}
use Rattle.hc_tracked.proofs.tracked.TrackedCore.insert_or_replace.Goals as goal

pub invariant_of-self : goal.invariant_of-self
invariant_of-self g c = calmly-so _ _ (Inserts c.args.client c.args.sealed) _ c.self.inside.core _ _ tt c.insert_or_replace.ensures.ok c.insert_or_replace.ensures.err c.self.invariant
