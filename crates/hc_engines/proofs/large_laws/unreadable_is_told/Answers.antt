use Rattle.hc_engines.proofs.large.Unread.{unreadable_told}
use Rattle.hc_engines.proofs.large_laws.unreadable_is_told.Goals as goal

pub returns : goal.returns
returns c = unreadable_told
