use Rattle.hc_verdict.proofs.Limiting.{flash-limited}
use Rattle.hc_verdict.proofs.lawful.limits.Goals as goal

pub returns : goal.returns
returns g c = flash-limited c.args._config.now c.requires c.limits.ensures
