use Rattle.hc_engines.proofs.large.Spelling.{entry_spelled}
use Rattle.hc_engines.proofs.large_laws.entry_is_its_bytes.Goals as goal

pub returns : goal.returns
returns c = entry_spelled
