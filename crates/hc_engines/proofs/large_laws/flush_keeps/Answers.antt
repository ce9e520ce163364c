use Rattle.hc_engines.proofs.large.GoodSteps.{flush_keeps}
use Rattle.hc_engines.proofs.large_laws.flush_keeps.Goals as goal

pub returns : goal.returns
returns c = flush_keeps
