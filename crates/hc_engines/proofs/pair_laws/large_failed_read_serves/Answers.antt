use Rattle.hc_engines.proofs.pair.LargeGets.{large_failed_read_serves}
use Rattle.hc_engines.proofs.pair_laws.large_failed_read_serves.Goals as goal

pub returns : goal.returns
returns c = large_failed_read_serves
