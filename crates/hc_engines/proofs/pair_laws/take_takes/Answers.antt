use Rattle.hc_engines.proofs.pair.Passing.{take_takes}
use Rattle.hc_engines.proofs.pair_laws.take_takes.Goals as goal

pub returns : goal.returns
returns c = take_takes
