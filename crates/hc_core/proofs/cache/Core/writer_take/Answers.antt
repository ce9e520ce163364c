use Rattle.hc_machine.specs.Cache.{Took}
use Rattle.hc_nvm.specs.Seen.{take_of}
use Rattle.hc_machine.specs.Call.{Writes}
use Rattle.hc_core.proofs.Keeping.{calm-holds}
use Rattle.hc_core.proofs.Calling.{called, calm}
use Rattle.hc_core.proofs.cache.Core.writer_take.Goals as goal

pub writer_take-requires : goal.writer_take-requires
writer_take-requires g c = record { ready = c.self.invariant.ready }

pub invariant_of-self : goal.invariant_of-self
invariant_of-self g c = calm-holds Writes c.self.inside.state c.writer_take.new.self tt c.self.invariant (λ take. Took (take_of take)) c.writer_take.result c.writer_take.ensures.ok c.writer_take.ensures.err

pub returns-clause-ok : goal.returns-clause-ok
returns-clause-ok g c = rw (← c.self.view_is) (called (λ take. Took (take_of take)) _ c.self.inside.state c.writer_take.new.self c.writer_take.result c.writer_take.ensures.ok)

pub returns-clause-err : goal.returns-clause-err
returns-clause-err g c = rw (← c.self.view_is) (calm c.self.inside.state c.writer_take.new.self c.writer_take.result c.writer_take.ensures.err)
