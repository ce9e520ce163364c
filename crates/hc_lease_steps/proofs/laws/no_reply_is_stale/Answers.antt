use Rattle.hc_lease_steps.proofs.Replying as by
use Rattle.hc_lease_steps.proofs.laws.no_reply_is_stale.Goals as goal

pub returns : goal.returns
returns c = by.no-reply-is-stale
