use Rattle.hc_flash.specs.Seen.{result_of}
use Rattle.hc_machine.specs.Cache.{Took}
use Rattle.hc_nvm.specs.Seen.{take_of}
use Rattle.hc_machine.specs.Call.{Finishes}
use Rattle.hc_core.proofs.Keeping.{calm-holds}
use Rattle.hc_core.proofs.Calling.{called, calm}
use Rattle.hc_core.proofs.cache.Core.finish.Goals as goal

pub finish-requires : goal.finish-requires
finish-requires g c = record { structured = c.self.invariant.structured; ready = c.self.invariant.ready }

pub invariant_of-self : goal.invariant_of-self
invariant_of-self g c =
    calm-holds (Finishes c.args.job (result_of c.args.came)) c.self.inside.state c.finish.new.self tt c.self.invariant (λ take. Took (take_of take)) c.finish.result c.finish.ensures.ok c.finish.ensures.err

pub returns-clause-ok : goal.returns-clause-ok
returns-clause-ok g c = rw (← c.self.view_is) (called (λ take. Took (take_of take)) _ c.self.inside.state c.finish.new.self c.finish.result c.finish.ensures.ok)

pub returns-clause-err : goal.returns-clause-err
returns-clause-err g c = rw (← c.self.view_is) (calm c.self.inside.state c.finish.new.self c.finish.result c.finish.ensures.err)

pub returns-clause-why : goal.returns-clause-why
returns-clause-why g c = rw (← c.self.view_is) c.finish.ensures.why
