use Rattle.hc_leased.proofs.Followed as by
use Rattle.hc_leased.proofs.laws.leased_replies_never_stale.Goals as goal

pub returns : goal.returns
returns c = by.leased-replies-never-stale
