use Rattle.hc_engines.proofs.large.GoodSteps.{others_keep}
use Rattle.hc_engines.proofs.large_laws.others_keep.Goals as goal

pub returns : goal.returns
returns c = others_keep
