use Rattle.std.proofs.Common.{◌∙◌, sym}
use Rattle.hc_waiting.specs.Tombstones.{stone_in, is_out}
use Rattle.hc_waiting.proofs.Mapped.{list_any-map}
use Rattle.hc_waiting.proofs.tombstones.Tombstones.any_out.Goals as goal

pub returns : goal.returns
returns g c = rw (← c.self.view_is) (c.any_taken.ensures ∙ sym (list_any-map stone_in is_out c.self.inside.line.pieces))
