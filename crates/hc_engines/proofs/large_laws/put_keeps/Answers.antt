use Rattle.hc_engines.proofs.large.GoodSteps.{put_keeps}
use Rattle.hc_engines.proofs.large_laws.put_keeps.Goals as goal

pub returns : goal.returns
returns c = put_keeps
