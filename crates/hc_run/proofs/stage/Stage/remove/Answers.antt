use Rattle.std.proofs.Common.{refl}
use Rattle.hc_machine.specs.Calls as steps
use Rattle.hc_run.proofs.Answering.{if-ok, if-err}
use Rattle.hc_run.proofs.Staging.{simply, retold}
use Rattle.hc_run.proofs.stage.Stage.remove.Goals as goal
use Rattle.hc_run.proofs.stage.Stage.remove.Goals.{in-Ok, in-Err}

pub returns-clause-ok : goal.returns-clause-ok
returns-clause-ok g c =
    rw (← c.self.view_is) (elim c.match-remove.branch [
      | in-Ok w ↦ if-ok _ _ _ w.result-is (λ held. retold held _ _ _ _ _ w.removed_outcome.ensures (simply held (steps.remove c.args.client c.args.key.now) _ _ _ _ (λ scene. refl) tt tt (record { cache = w.in-Ok.ensures.ok.cache; answer_is = w.in-Ok.ensures.ok.answer_is; log = w.in-Ok.ensures.ok.log; failures = refl }) refl refl))
      | in-Err w ↦ if-err _ _ _ w.result-is
    ])
