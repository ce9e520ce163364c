use Rattle.hc_machine.specs.Call.{Finds}
use Rattle.hc_machine.specs.Calls.{find}
use Rattle.hc_core.proofs.Keeping.{call-holds}
use Rattle.hc_core.proofs.Calling.{called, unchanged}
use Rattle.hc_core.proofs.cache.Core.find_into.Goals as goal

pub find_into-requires : goal.find_into-requires
find_into-requires g c = record { ready = c.self.invariant.ready; begun = c.self.invariant.begun }

pub invariant_of-self : goal.invariant_of-self
invariant_of-self g c =
    let answer = (find c.args.client c.args.key.now c.self.inside.state.cache).answer in
    call-holds (Finds c.args.client c.args.key.now) c.self.inside.state c.find_into.new.self tt c.self.invariant (λ copied. answer) c.find_into.result c.find_into.ensures.ok c.find_into.ensures.err

pub returns-clause-ok : goal.returns-clause-ok
returns-clause-ok g c =
    let answer = (find c.args.client c.args.key.now c.self.inside.state.cache).answer in
    rw (← c.self.view_is) (called (λ copied. answer) _ c.self.inside.state c.find_into.new.self c.find_into.result c.find_into.ensures.ok)

pub returns-clause-answer : goal.returns-clause-answer
returns-clause-answer g c = rw (← c.self.view_is) c.find_into.ensures.answer

pub returns-clause-buffer : goal.returns-clause-buffer
returns-clause-buffer g c = rw (← c.self.view_is) c.find_into.ensures.buffer

pub returns-clause-err : goal.returns-clause-err
returns-clause-err g c = rw (← c.self.view_is) (unchanged c.self.inside.state c.find_into.new.self c.find_into.result c.find_into.ensures.err)
