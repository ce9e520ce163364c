use Rattle.hc_machine.specs.Cache.{Took}
use Rattle.hc_nvm.specs.Seen.{take_of}
use Rattle.hc_machine.specs.Call.{Fills}
use Rattle.hc_core.proofs.Keeping.{calm-holds}
use Rattle.hc_core.proofs.Calling.{called, calm}
use Rattle.hc_core.proofs.cache.Core.filler_take.Goals as goal

pub filler_take-requires : goal.filler_take-requires
filler_take-requires g c = record { structured = c.self.invariant.structured; ready = c.self.invariant.ready }

pub invariant_of-self : goal.invariant_of-self
invariant_of-self g c = calm-holds Fills c.self.inside.state c.filler_take.new.self tt c.self.invariant (λ take. Took (take_of take)) c.filler_take.result c.filler_take.ensures.ok c.filler_take.ensures.err

pub returns-clause-ok : goal.returns-clause-ok
returns-clause-ok g c = rw (← c.self.view_is) (called (λ take. Took (take_of take)) _ c.self.inside.state c.filler_take.new.self c.filler_take.result c.filler_take.ensures.ok)

pub returns-clause-err : goal.returns-clause-err
returns-clause-err g c = rw (← c.self.view_is) (calm c.self.inside.state c.filler_take.new.self c.filler_take.result c.filler_take.ensures.err)
