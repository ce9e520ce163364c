use Rattle.hc_flash.specs.Seen.{order_of, result_of}
use Rattle.hc_run.specs.Shows.{seen}
use Rattle.hc_run.proofs.Devices.{made}
use Rattle.hc_run.proofs.device.make.Goals as goal

pub returns-in-Ok-clause-ok : goal.returns-in-Ok-clause-ok
returns-in-Ok-clause-ok g c =
    let e = c.in_ok-kept.ensures in
    made (seen c.args.window.now (g.D.Flash.held c.args.device.now)) (seen c.args.window.now (g.D.Flash.held c.perform.new.device)) (order_of c.args.order.now) (result_of c.in_ok-kept.kept) e.came e.pages
