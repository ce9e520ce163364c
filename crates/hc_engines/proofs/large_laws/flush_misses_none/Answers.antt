use Rattle.hc_engines.proofs.large.Listed.{flush_misses_none}
use Rattle.hc_engines.proofs.large_laws.flush_misses_none.Goals as goal

pub returns : goal.returns
returns c = flush_misses_none
