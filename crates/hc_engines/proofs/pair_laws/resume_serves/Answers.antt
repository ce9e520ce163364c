use Rattle.hc_engines.proofs.pair.Calls.{resume_serves}
use Rattle.hc_engines.proofs.pair_laws.resume_serves.Goals as goal

pub returns : goal.returns
returns c = resume_serves
