use Rattle.hc_theorem.proofs.headlines.EachStep as by
use Rattle.hc_theorem.proofs.laws.writer_keeps.Goals as goal

pub returns : goal.returns
returns c = by.writes
