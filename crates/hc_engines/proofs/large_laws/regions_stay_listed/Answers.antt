use Rattle.hc_engines.proofs.large.Listed.{stay_listed}
use Rattle.hc_engines.proofs.large_laws.regions_stay_listed.Goals as goal

pub returns : goal.returns
returns c = stay_listed
