use Rattle.hc_engines.proofs.pair.Below.{resume_below}
use Rattle.hc_engines.proofs.pair_laws.resume_stays_below.Goals as goal

pub returns : goal.returns
returns c = resume_below
