use Rattle.hc_engines.proofs.pair.LargeServes.{large_reclaim_serves}
use Rattle.hc_engines.proofs.pair_laws.large_reclaim_serves.Goals as goal

pub returns : goal.returns
returns c = large_reclaim_serves
