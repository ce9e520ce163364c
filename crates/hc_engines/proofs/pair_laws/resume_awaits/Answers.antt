use Rattle.hc_engines.proofs.pair.Passing.{resume_awaits}
use Rattle.hc_engines.proofs.pair_laws.resume_awaits.Goals as goal

pub returns : goal.returns
returns c = resume_awaits
