use Rattle.hc_engines.proofs.pair.LargeServes.{large_flush_serves}
use Rattle.hc_engines.proofs.pair_laws.large_flush_serves.Goals as goal

pub returns : goal.returns
returns c = large_flush_serves
