-- A put is there where its piece is.
use Rattle.std.proofs.Common.{◌∙◌}
use Rattle.hc_waiting.proofs.Pieces.{is_there}
use Rattle.hc_waiting.proofs.puts.Puts.contains.Goals as goal

pub returns : goal.returns
returns g c = rw (← c.self.view_is) (c.contains.ensures ∙ is_there c.args.key.now c.self.inside.line.pieces)
