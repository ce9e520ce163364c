use Rattle.hc_engines.proofs.pair.LargeServes.{large_failed_write_serves}
use Rattle.hc_engines.proofs.pair_laws.large_failed_write_serves.Goals as goal

pub returns : goal.returns
returns c = large_failed_write_serves
