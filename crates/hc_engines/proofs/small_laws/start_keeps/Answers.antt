use Rattle.hc_engines.proofs.small.Started.{start_keeps}
use Rattle.hc_engines.proofs.small_laws.start_keeps.Goals as goal

pub returns : goal.returns
returns c = start_keeps
