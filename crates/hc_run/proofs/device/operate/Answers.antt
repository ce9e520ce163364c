use Rattle.std.proofs.Common.{Bool, sym, subst}
use Rattle.hc_flash.specs.Seen.{order_of}
use Rattle.hc_engines.specs.Engine.{Failed}
use Rattle.hc_run.specs.Devices.{Comes, broke}
use Rattle.hc_run.specs.Shows.{seen}
use Rattle.hc_run.proofs.Devices.{unreached}
use Rattle.hc_run.proofs.device.operate.Goals as goal

pub returns-then-fails-clause-ok : goal.returns-then-fails-clause-ok
returns-then-fails-clause-ok g c =
    let held = seen c.args.window.now (g.D.Flash.held c.args.device.now) in
    subst (λ (fails : Bool). Comes (order_of c.args.order.now) fails (broke fails Failed) held Failed held) (sym c.if-fails.true)
    (unreached held (order_of c.args.order.now))
