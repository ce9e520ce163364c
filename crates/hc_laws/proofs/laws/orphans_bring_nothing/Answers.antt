use Rattle.hc_laws.proofs.Fills.{orphans}
use Rattle.hc_laws.proofs.laws.orphans_bring_nothing.Goals as goal

pub returns : goal.returns
returns c = orphans
