use Rattle.hc_state.specs.find.Answer.{found_answer}
use Rattle.hc_machine.specs.Call.{Finds}
use Rattle.hc_core.proofs.Keeping.{call-holds}
use Rattle.hc_core.proofs.Calling.{called, unchanged}
use Rattle.hc_core.proofs.cache.Core.find.Goals as goal

pub find-requires : goal.find-requires
find-requires g c = record { ready = c.self.invariant.ready; begun = c.self.invariant.begun }

pub invariant_of-self : goal.invariant_of-self
invariant_of-self g c =
    call-holds (Finds c.args.client c.args.key.now) c.self.inside.state c.find.new.self tt c.self.invariant found_answer c.find.result c.find.ensures.ok c.find.ensures.err

pub returns-clause-ok : goal.returns-clause-ok
returns-clause-ok g c = rw (← c.self.view_is) (called found_answer _ c.self.inside.state c.find.new.self c.find.result c.find.ensures.ok)

pub returns-clause-err : goal.returns-clause-err
returns-clause-err g c = rw (← c.self.view_is) (unchanged c.self.inside.state c.find.new.self c.find.result c.find.ensures.err)
