use Rattle.hc_engines.proofs.small.Apart.{resume_goes}
use Rattle.hc_engines.proofs.small_laws.resume_goes.Goals as goal

pub returns : goal.returns
returns c = resume_goes
