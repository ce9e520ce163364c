use Rattle.hc_engines.proofs.large.Unread.{failed_told}
use Rattle.hc_engines.proofs.large_laws.failed_read_is_told.Goals as goal

pub returns : goal.returns
returns c = failed_told
