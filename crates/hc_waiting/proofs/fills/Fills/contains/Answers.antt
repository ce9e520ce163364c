-- A fill is there where its piece is.
use Rattle.std.proofs.Common.{◌∙◌}
use Rattle.hc_waiting.proofs.Filling.{has_fill}
use Rattle.hc_waiting.proofs.fills.Fills.contains.Goals as goal

pub returns : goal.returns
returns g c = rw (← c.self.view_is) (c.contains.ensures ∙ has_fill c.args.key.now c.self.inside.line.pieces)
