use Rattle.std.proofs.Common.{◌∙◌}
use Rattle.hc_waiting.proofs.Numbered.{taken-is}
use Rattle.hc_waiting.proofs.line.Line.any_taken.Goals as goal

pub returns : goal.returns
returns g c = rw (← c.self.view_is) (c.any_taken.ensures ∙ taken-is c.self.inside.queue.entries)
