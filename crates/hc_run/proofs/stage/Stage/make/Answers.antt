use Rattle.hc_engines.specs.Engine.{Pages}
use Rattle.hc_run.specs.Shows.{Waits, seen}
use Rattle.hc_run.proofs.Slotted.{err-held}
use Rattle.hc_run.proofs.stage.Stage.make.Goals as goal

pub returns-in-None-clause-err : goal.returns-in-None-clause-err
returns-in-None-clause-err g c =
    let old = c.args.self.now in
    err-held (seen old.window (g.D.Flash.held c.args.device.now)) (λ (held : Pages). Waits held old held c.serve.new.self) c.serve.result c.serve.ensures.err
