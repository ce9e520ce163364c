use Rattle.hc_engines.proofs.large.GoodSteps.{reclaim_keeps}
use Rattle.hc_engines.proofs.large_laws.reclaim_keeps.Goals as goal

pub returns : goal.returns
returns c = reclaim_keeps
