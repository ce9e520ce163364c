-- The piece that the key's number names.
use Rattle.std.proofs.Common.{◌∙◌, sym}
use Rattle.hc_waiting.proofs.Numbered.{at-number, none-there}
use Rattle.hc_waiting.proofs.line.Line.get.Goals as goal

pub returns-in-Some : goal.returns-in-Some
returns-in-Some g c = rw (← c.self.view_is) (c.get.ensures ∙ at-number c.args.key.now c.in-Some.number 0 c.is_sound.ensures.rising.0 c.self.inside.queue.entries c.is_sound.ensures.rising.1 (sym c.number_of.ensures ∙ c.in-Some.is))

pub returns-in-None : goal.returns-in-None
returns-in-None g c = rw (← c.self.view_is) (sym (none-there c.args.key.now c.self.inside.queue.entries (sym c.number_of.ensures ∙ c.in-None.is)))
