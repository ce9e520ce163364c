use Rattle.hc_engines.proofs.large.GoodSteps.{written_keeps}
use Rattle.hc_engines.proofs.large_laws.written_keeps.Goals as goal

pub returns : goal.returns
returns c = written_keeps
