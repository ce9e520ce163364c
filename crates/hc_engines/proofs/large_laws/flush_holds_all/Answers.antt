use Rattle.hc_engines.proofs.large.HeldChanges.{flush_changes}
use Rattle.hc_engines.proofs.large_laws.flush_holds_all.Goals as goal

pub returns : goal.returns
returns c = flush_changes
