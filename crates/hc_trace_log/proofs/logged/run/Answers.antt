use Rattle.hc_trace_log.proofs.Hearing.{heard-whole}
use Rattle.hc_trace_log.proofs.logged.run.Goals as goal

pub returns-in_default-None : goal.returns-in_default-None
returns-in_default-None c = heard-whole c.args.config c.args.player c.in_ok-player.field-0.0 _ c.requires.fits c.requires.fresh c.requires.log (rw c.in_default-None.is-1 at c.in_ok-player.ensures)
