use Rattle.hc_engines.proofs.large.Listed.{lists_are_exact}
use Rattle.hc_engines.proofs.large_laws.lists_are_exact.Goals as goal

pub returns : goal.returns
returns c = lists_are_exact
