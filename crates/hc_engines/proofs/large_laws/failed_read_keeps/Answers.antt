use Rattle.hc_engines.proofs.large.GoodGets.{failed_read_keeps}
use Rattle.hc_engines.proofs.large_laws.failed_read_keeps.Goals as goal

pub returns : goal.returns
returns c = failed_read_keeps
