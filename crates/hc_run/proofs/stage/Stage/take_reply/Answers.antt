use Rattle.std.proofs.Common.{refl}
use Rattle.hc_machine.specs.Calls as steps
use Rattle.hc_run.proofs.Answering.{if-ok, by-result, ok-quiet}
use Rattle.hc_run.proofs.Staging.{simply}
use Rattle.hc_run.proofs.Slotted.{any-held, reply-refused-ok, waits-err, back-is}
use Rattle.hc_run.proofs.stage.Stage.take_reply.Goals as goal
use Rattle.hc_run.proofs.stage.Stage.take_reply.Goals.{in-Ok, in-Err}

pub returns-clause-ok : goal.returns-clause-ok
returns-clause-ok g c =
    let f = c.self.inside in
    rw (← c.self.view_is) (elim c.match-take_reply.branch [
      | in-Ok w ↦ if-ok _ _ _ w.result-is
          (λ held. simply held (steps.take_reply c.args.call) _ _ _ _ (λ scene. refl) tt tt (record { cache = w.in-Ok.ensures.ok.cache; answer_is = w.in-Ok.ensures.ok.answer_is; log = w.in-Ok.ensures.ok.log; failures = refl }) refl refl)
      | in-Err w ↦ by-result _ _ _ w.result-is
          (any-held _ _ (λ held. reply-refused-ok held f.window f.failures f.results.results f.core.cache c.take_reply.new.self.cache f.core.log c.take_reply.new.self.log f.slots.items f.slots.items c.args.client 0 w.refused.result c.args.call w.in-Err.refusal w.refused.ensures.ok w.in-Err.ensures.why
          (back-is f.window f.failures f.results.results f.core.cache c.take_reply.new.self.cache f.core.log c.take_reply.new.self.log f.slots.items f.slots.items (λ i. (w.in-Err.ensures.err i).cache) (λ i. (w.in-Err.ensures.err i).log) refl)))
    ])

pub returns-clause-err : goal.returns-clause-err
returns-clause-err g c =
    let f = c.self.inside in
    rw (← c.self.view_is) (elim c.match-take_reply.branch [
      | in-Ok w ↦ ok-quiet _ _ _ w.result-is
      | in-Err w ↦ waits-err _ _ _
          (back-is f.window f.failures f.results.results f.core.cache c.take_reply.new.self.cache f.core.log c.take_reply.new.self.log f.slots.items f.slots.items (λ i. (w.in-Err.ensures.err i).cache) (λ i. (w.in-Err.ensures.err i).log) refl)
    ])
