use Rattle.hc_engines.proofs.large.GoodGets.{get_keeps}
use Rattle.hc_engines.proofs.large_laws.get_keeps.Goals as goal

pub returns : goal.returns
returns c = get_keeps
