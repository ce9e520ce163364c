use Rattle.hc_engines.proofs.small.Resumed.{resume_keeps}
use Rattle.hc_engines.proofs.small_laws.resume_keeps.Goals as goal

pub returns : goal.returns
returns c = resume_keeps
