use Rattle.hc_engines.proofs.large.HeldChanges.{written_changes}
use Rattle.hc_engines.proofs.large_laws.written_holds_all.Goals as goal

pub returns : goal.returns
returns c = written_changes
