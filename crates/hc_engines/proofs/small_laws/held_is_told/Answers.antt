use Rattle.hc_engines.proofs.small.Serving.{held_is_told}
use Rattle.hc_engines.proofs.small_laws.held_is_told.Goals as goal

pub returns : goal.returns
returns c = held_is_told
