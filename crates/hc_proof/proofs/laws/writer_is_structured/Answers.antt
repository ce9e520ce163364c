use Rattle.hc_proof.proofs.structure.Workers as by
use Rattle.hc_proof.proofs.laws.writer_is_structured.Goals as goal

pub returns : goal.returns
returns c = by.writes
