use Rattle.std.proofs.Common.{◌==◌, ℕ, Option, Some, inl, inr, refl, sym, ap, ◌∙◌}
use Rattle.std.specs.Prelude.{is_some, if◌then◌else◌}
use Rattle.hc_flash.specs.Seen.{order_of, result_of}
use Rattle.hc_engines.specs.Engine.{IoResult}
use Rattle.hc_machine.specs.World.{Made}
use Rattle.hc_machine.specs.Schedule.{Tells}
use Rattle.hc_run.specs.Devices.{broke}
use Rattle.hc_run.specs.Shows.{seen}
use Rattle.hc_run.proofs.Answering.{on-err, map-some, no-some}
use Rattle.hc_run.proofs.Devices.{counts-after}
use Rattle.hc_run.proofs.Staging.{no-operation, operated-so, waits-so, told-so}
use Rattle.hc_run.proofs.stage.Stage.io.Goals as goal

pub returns-in_default-clause-ok : goal.returns-in_default-clause-ok
returns-in_default-clause-ok g c = rw (← c.self.view_is) (no-operation _ _ c.args.client c.args.job c.args.fails (inl (sym c.in_default.ensures)))

pub returns-then-is_some-clause-ok : goal.returns-then-is_some-clause-ok
returns-then-is_some-clause-ok g c =
    rw (← c.self.view_is) (no-operation _ _ c.args.client c.args.job c.args.fails (inr (ap is_some (sym c.get.ensures) ∙ map-some _ c.get.result ∙ sym c.is_some.ensures ∙ c.if-is_some.true)))

pub returns-in_err-reserve-clause-err : goal.returns-in_err-reserve-clause-err
returns-in_err-reserve-clause-err g c = rw (← c.self.view_is) (on-err c.from_residual.result (waits-so _ _ _ _ refl refl refl c.in_err-reserve.ensures.same refl (λ page. refl)))

pub returns-in_err-kept-clause-err : goal.returns-in_err-kept-clause-err
returns-in_err-kept-clause-err g c = rw (← c.self.view_is) (on-err c.from_residual-in_err-kept.result (waits-so _ _ _ _ refl refl refl c.in_ok-reserve.ensures.same refl c.in_err-kept.ensures.err))

pub returns-clause-ok : goal.returns-clause-ok
returns-clause-ok g c =
    let f = c.self.inside in
    let came = c.in_ok-kept.field-0 in
    let failures = c.failures_after-self-inside.result in
    rw (← c.self.view_is)
    (told-so _ _ _ _ _ _ (Tells (Made (result_of came.kept) failures)) (λ i. Tells (Made (c.in_ok-kept.ensures.told i) failures))
    (operated-so (seen f.window (g.D.Flash.held c.args.device.now)) (seen f.window (g.D.Flash.held c.operate.new.device)) _ _ c.args.client c.args.job c.args.fails (broke c.args.fails (result_of came.kept)) (order_of c.in-Some.order.now) (result_of came.kept) (sym c.in-Some.ensures)
    (no-some _ (ap is_some (sym c.get.ensures) ∙ map-some _ c.get.result ∙ sym c.is_some.ensures ∙ c.if-is_some.false)) c.in_ok-kept.ensures.ok refl refl refl
    (λ (every : ℕ). c.put.ensures every ∙ ap (λ (o : Option IoResult). if c.args.job == every then Some (result_of came.kept) else o) (c.in_ok-reserve.ensures.same every)) c.failures_after-self-inside.ensures))

pub returns-clause-counted : goal.returns-clause-counted
returns-clause-counted g c =
    let f = c.self.inside in
    let came = c.in_ok-kept.field-0 in
    rw (← c.self.view_is)
    (counts-after f.window (g.D.Flash.failed c.args.device.now) (g.D.Flash.failed c.operate.new.device) f.failures c.failures_after-self-inside.result c.args.fails (result_of came.kept) c.failures_after-self-inside.ensures c.in_ok-kept.ensures.counted)
