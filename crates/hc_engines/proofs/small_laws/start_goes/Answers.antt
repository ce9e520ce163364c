use Rattle.hc_engines.proofs.small.Apart.{start_goes}
use Rattle.hc_engines.proofs.small_laws.start_goes.Goals as goal

pub returns : goal.returns
returns c = start_goes
