use Rattle.hc_laws.proofs.Inserts.{inserts}
use Rattle.hc_laws.proofs.laws.insert_is_due.Goals as goal

pub returns : goal.returns
returns c = inserts
