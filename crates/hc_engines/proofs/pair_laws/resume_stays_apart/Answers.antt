use Rattle.hc_engines.proofs.pair.Apart.{pair_resume_apart}
use Rattle.hc_engines.proofs.pair_laws.resume_stays_apart.Goals as goal

pub returns : goal.returns
returns c = pair_resume_apart
