use Rattle.hc_engines.proofs.large.GoodGets.{read_keeps}
use Rattle.hc_engines.proofs.large_laws.read_keeps.Goals as goal

pub returns : goal.returns
returns c = read_keeps
