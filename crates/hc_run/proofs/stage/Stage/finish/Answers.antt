use Rattle.std.proofs.Common.{Some, refl, sym, ap, ◌∙◌}
use Rattle.hc_flash.specs.Seen.{result_of}
use Rattle.hc_nvm.specs.Seen.{take_of}
use Rattle.hc_machine.specs.Cache.{Took}
use Rattle.hc_run.proofs.Answering.{but-memory}
use Rattle.hc_run.proofs.Staging.{no-result, finished, finish-refused}
use Rattle.hc_run.proofs.stage.Stage.finish.Goals as goal

pub returns-in_default-clause-ok : goal.returns-in_default-clause-ok
returns-in_default-clause-ok g c = rw (← c.self.view_is) (λ held. no-result held _ c.args.client c.args.job (sym c.in_default.ensures))

pub returns-in-Ok-clause-ok : goal.returns-in-Ok-clause-ok
returns-in-Ok-clause-ok g c =
    let ok = c.in-Ok.ensures.ok in
    rw (← c.self.view_is)
    (λ held. finished held _ _ c.args.client c.args.job (result_of c.in_ok-came.came) (Took (take_of c.in-Ok.take)) (sym c.in-Some.ensures ∙ ap Some (sym c.in_ok-came.ensures.ok)) (record { cache = ok.cache; answer_is = ok.answer_is; log = ok.log; failures = refl }) c.forget.ensures refl)

pub returns-in_default-refusal : goal.returns-in_default-refusal
returns-in_default-refusal g c = record {
  ok = rw (← c.self.view_is)
      (λ held. finish-refused held _ _ c.args.client c.args.job (result_of c.in_ok-came.came) c.in-Err.field-0.refusal (sym c.in-Some.ensures ∙ ap Some (sym c.in_ok-came.ensures.ok)) (but-memory _ c.in-Err.field-0.refusal c.in_default-refusal.not-NoMemory c.in-Err.ensures.why)
      (λ i. (c.in-Err.ensures.err i).cache) (λ i. (c.in-Err.ensures.err i).log) refl c.forget-in_default-refusal.ensures refl);
  err = tt;
  window = rw (← c.self.view_is) refl;
  failures = rw (← c.self.view_is) refl;
}
