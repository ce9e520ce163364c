use Rattle.hc_engines.proofs.large.Bytes.{entry_again}
use Rattle.hc_engines.proofs.large_laws.entry_reads_back.Goals as goal

pub returns : goal.returns
returns c = entry_again
