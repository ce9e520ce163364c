use Rattle.hc_engines.proofs.pair.LargeServes.{large_put_serves}
use Rattle.hc_engines.proofs.pair_laws.large_put_serves.Goals as goal

pub returns : goal.returns
returns c = large_put_serves
