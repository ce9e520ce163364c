use Rattle.hc_machine.specs.Cache.{Reclaimed}
use Rattle.hc_machine.specs.Call.{Reclaims}
use Rattle.hc_core.proofs.Keeping.{calm-holds}
use Rattle.hc_core.proofs.Calling.{called, calm}
use Rattle.hc_core.proofs.cache.Core.reclaim.Goals as goal

pub reclaim-requires : goal.reclaim-requires
reclaim-requires g c = record { ready = c.self.invariant.ready }

pub invariant_of-self : goal.invariant_of-self
invariant_of-self g c = calm-holds Reclaims c.self.inside.state c.reclaim.new.self tt c.self.invariant (λ region. Reclaimed region) c.reclaim.result c.reclaim.ensures.ok c.reclaim.ensures.err

pub returns-clause-ok : goal.returns-clause-ok
returns-clause-ok g c = rw (← c.self.view_is) (called (λ region. Reclaimed region) _ c.self.inside.state c.reclaim.new.self c.reclaim.result c.reclaim.ensures.ok)

pub returns-clause-err : goal.returns-clause-err
returns-clause-err g c = rw (← c.self.view_is) (calm c.self.inside.state c.reclaim.new.self c.reclaim.result c.reclaim.ensures.err)
