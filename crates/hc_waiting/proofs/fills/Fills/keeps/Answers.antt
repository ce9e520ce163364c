-- A charge is kept in the fill that its piece names.
use Rattle.std.proofs.Common.{◌∙◌, ap}
use Rattle.hc_waiting.specs.Fills.{is_kept_by}
use Rattle.hc_waiting.proofs.Filling.{kept_as}
use Rattle.hc_waiting.proofs.fills.Fills.keeps.Goals as goal

pub returns : goal.returns
returns g c = rw (← c.self.view_is) (c.is_kept_by.ensures ∙ ap (is_kept_by c.args.number) c.get.ensures ∙ kept_as c.args.number c.args.key.now c.self.inside.line.pieces)
