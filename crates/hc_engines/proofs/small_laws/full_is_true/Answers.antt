use Rattle.hc_engines.proofs.small.Full.{full_is_true}
use Rattle.hc_engines.proofs.small_laws.full_is_true.Goals as goal

pub returns : goal.returns
returns c = full_is_true
