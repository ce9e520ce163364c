use Rattle.std.proofs.Common.{◌∙◌}
use Rattle.hc_machine.specs.Quiet.{jobs_in}
use Rattle.hc_run.specs.Asked.{deed_of}
use Rattle.hc_run.proofs.QuietGoing.{quiet-none}
use Rattle.hc_run.proofs.stage.Stage.is_quiet.Goals as goal

pub returns-in-None : goal.returns-in-None
returns-in-None g c = rw (← c.self.view_is) (rw (← c.step.view_is) (c.is_idle.ensures ∙ quiet-none (deed_of c.step.inside.request) (jobs_in c.self.inside.core.cache.nvm) c.in-None.ensures))
