use Rattle.hc_state.specs.remove.Answer.{removed_answer}
use Rattle.hc_machine.specs.Call.{Removes}
use Rattle.hc_core.proofs.Keeping.{calm-holds}
use Rattle.hc_core.proofs.Calling.{called, calm}
use Rattle.hc_core.proofs.cache.Core.remove.Goals as goal

pub remove-requires : goal.remove-requires
remove-requires g c = record { structured = c.self.invariant.structured; ready = c.self.invariant.ready }

pub invariant_of-self : goal.invariant_of-self
invariant_of-self g c =
    calm-holds (Removes c.args.client c.args.key.now) c.self.inside.state c.remove.new.self tt c.self.invariant removed_answer c.remove.result c.remove.ensures.ok c.remove.ensures.err

pub returns-clause-ok : goal.returns-clause-ok
returns-clause-ok g c = rw (← c.self.view_is) (called removed_answer _ c.self.inside.state c.remove.new.self c.remove.result c.remove.ensures.ok)

pub returns-clause-err : goal.returns-clause-err
returns-clause-err g c = rw (← c.self.view_is) (calm c.self.inside.state c.remove.new.self c.remove.result c.remove.ensures.err)

pub returns-clause-silent : goal.returns-clause-silent
returns-clause-silent g c = rw (← c.self.view_is) c.remove.ensures.silent
