use Rattle.hc_laws.proofs.Fills.{fills}
use Rattle.hc_laws.proofs.laws.fills_are_linked_clean.Goals as goal

pub returns : goal.returns
returns c = fills
