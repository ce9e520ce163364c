use Rattle.hc_core.proofs.Keeping.{stays_holds}
use Rattle.hc_core.proofs.cache.Core.writer_has_work.Goals as goal

pub invariant_of-self : goal.invariant_of-self
invariant_of-self g c = stays_holds c.self.inside.state c.writer_has_work.new.self c.self.invariant c.writer_has_work.ensures.stays

pub returns-clause-same : goal.returns-clause-same
returns-clause-same g c = let stays = c.writer_has_work.ensures.stays in rw (← c.self.view_is) (λ i. record { cache = stays.cache i; log = stays.log i })
