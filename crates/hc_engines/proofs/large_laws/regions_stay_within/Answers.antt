use Rattle.hc_engines.proofs.large.Within.{stay_within}
use Rattle.hc_engines.proofs.large_laws.regions_stay_within.Goals as goal

pub returns : goal.returns
returns c = stay_within
