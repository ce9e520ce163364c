use Rattle.hc_machine.specs.Cache.{Moment}
use Rattle.hc_machine.specs.Call.{Ticks}
use Rattle.hc_core.proofs.Keeping.{calm-holds}
use Rattle.hc_core.proofs.Calling.{called, calm}
use Rattle.hc_core.proofs.cache.Core.tick.Goals as goal

pub tick-requires : goal.tick-requires
tick-requires g c = record { ready = c.self.invariant.ready }

pub invariant_of-self : goal.invariant_of-self
invariant_of-self g c = calm-holds (Ticks c.args.moment) c.self.inside.state c.tick.new.self tt c.self.invariant (λ now. Moment now) c.tick.result c.tick.ensures.ok c.tick.ensures.err

pub returns-clause-ok : goal.returns-clause-ok
returns-clause-ok g c = rw (← c.self.view_is) (called (λ now. Moment now) _ c.self.inside.state c.tick.new.self c.tick.result c.tick.ensures.ok)

pub returns-clause-err : goal.returns-clause-err
returns-clause-err g c = rw (← c.self.view_is) (calm c.self.inside.state c.tick.new.self c.tick.result c.tick.ensures.err)

pub returns-clause-silent : goal.returns-clause-silent
returns-clause-silent g c = rw (← c.self.view_is) c.tick.ensures.silent
