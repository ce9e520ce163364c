use Rattle.hc_laws.proofs.Refuses.{refuses}
use Rattle.hc_laws.proofs.laws.refused_changes_nothing.Goals as goal

pub returns : goal.returns
returns c = refuses
