use Rattle.hc_engines.proofs.pair.LargeServes.{large_written_serves}
use Rattle.hc_engines.proofs.pair_laws.large_written_serves.Goals as goal

pub returns : goal.returns
returns c = large_written_serves
