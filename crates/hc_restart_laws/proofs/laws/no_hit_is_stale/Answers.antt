use Rattle.hc_restart_laws.proofs.Serving as by
use Rattle.hc_restart_laws.proofs.laws.no_hit_is_stale.Goals as goal

pub returns : goal.returns
returns c = by.no-hit-is-stale
