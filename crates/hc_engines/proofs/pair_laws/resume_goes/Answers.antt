use Rattle.hc_engines.proofs.pair.Going.{pair_resume_goes}
use Rattle.hc_engines.proofs.pair_laws.resume_goes.Goals as goal

pub returns : goal.returns
returns c = pair_resume_goes
