-- A piece is there where its number is.
use Rattle.std.proofs.Common.{◌∙◌}
use Rattle.hc_waiting.proofs.Numbered.{number-there}
use Rattle.hc_waiting.proofs.line.Line.contains.Goals as goal

pub returns : goal.returns
returns g c = rw (← c.self.view_is) (c.contains.ensures ∙ number-there c.args.key.now c.self.inside.queue.entries)
