use Rattle.hc_engines.proofs.large.Unread.{at_once_told}
use Rattle.hc_engines.proofs.large_laws.unreadable_at_once_is_told.Goals as goal

pub returns : goal.returns
returns c = at_once_told
