use Rattle.hc_engines.proofs.pair.Waiting.{busy_is_true}
use Rattle.hc_engines.proofs.pair_laws.busy_is_true.Goals as goal

pub returns : goal.returns
returns c = busy_is_true
