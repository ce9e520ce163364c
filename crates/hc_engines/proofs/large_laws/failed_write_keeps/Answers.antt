use Rattle.hc_engines.proofs.large.GoodSteps.{failed_write_keeps}
use Rattle.hc_engines.proofs.large_laws.failed_write_keeps.Goals as goal

pub returns : goal.returns
returns c = failed_write_keeps
