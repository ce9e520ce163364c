use Rattle.hc_machine.specs.Cache.{Discarded}
use Rattle.hc_machine.specs.Call.{Discards}
use Rattle.hc_core.proofs.Keeping.{done-holds}
use Rattle.hc_core.proofs.Calling.{called-so, calm}
use Rattle.hc_core.proofs.cache.Core.discard.Goals as goal

pub discard-requires : goal.discard-requires
discard-requires g c = record { structured = c.self.invariant.structured; ready = c.self.invariant.ready }

pub invariant_of-self : goal.invariant_of-self
invariant_of-self g c = done-holds (Discards c.args.sealed) c.self.inside.state c.discard.new.self tt c.self.invariant Discarded c.discard.result c.discard.ensures.ok c.discard.ensures.err

pub returns-clause-ok : goal.returns-clause-ok
returns-clause-ok g c = rw (← c.self.view_is) (called-so Discarded _ c.self.inside.state c.discard.new.self c.discard.result c.discard.ensures.ok)

pub returns-clause-foreign : goal.returns-clause-foreign
returns-clause-foreign g c = rw (← c.self.view_is) c.discard.ensures.foreign

pub returns-clause-err : goal.returns-clause-err
returns-clause-err g c = rw (← c.self.view_is) (calm c.self.inside.state c.discard.new.self c.discard.result c.discard.ensures.err)
