use Rattle.hc_engines.proofs.large.New.{new_good}
use Rattle.hc_engines.proofs.large_laws.new_is_good.Goals as goal

pub returns : goal.returns
returns c = new_good
