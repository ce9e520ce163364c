use Rattle.hc_engines.proofs.large.GoodSteps.{take_keeps}
use Rattle.hc_engines.proofs.large_laws.take_keeps.Goals as goal

pub returns : goal.returns
returns c = take_keeps
