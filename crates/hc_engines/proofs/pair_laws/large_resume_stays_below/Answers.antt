use Rattle.hc_engines.proofs.pair.Below.{large_resume_below}
use Rattle.hc_engines.proofs.pair_laws.large_resume_stays_below.Goals as goal

pub returns : goal.returns
returns c = large_resume_below
