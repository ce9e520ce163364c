-- A tombstone stands where its piece is.
use Rattle.std.proofs.Common.{◌∙◌}
use Rattle.hc_waiting.proofs.Stones.{stone_there}
use Rattle.hc_waiting.proofs.tombstones.Tombstones.contains.Goals as goal

pub returns : goal.returns
returns g c = rw (← c.self.view_is) (c.contains.ensures ∙ stone_there c.args.key.now c.self.inside.line.pieces)
