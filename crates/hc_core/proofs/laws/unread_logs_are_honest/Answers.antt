use Rattle.hc_core.proofs.Unread.{unread_is_honest}
use Rattle.hc_core.proofs.laws.unread_logs_are_honest.Goals as goal

pub returns : goal.returns
returns c = unread_is_honest
