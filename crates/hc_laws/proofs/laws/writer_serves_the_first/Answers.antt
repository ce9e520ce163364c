use Rattle.hc_laws.proofs.Serves.{writer_serves}
use Rattle.hc_laws.proofs.laws.writer_serves_the_first.Goals as goal

pub returns : goal.returns
returns c = writer_serves
