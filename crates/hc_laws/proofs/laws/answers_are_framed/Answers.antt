use Rattle.hc_laws.proofs.Framing.{frames}
use Rattle.hc_laws.proofs.laws.answers_are_framed.Goals as goal

pub returns : goal.returns
returns c = frames
