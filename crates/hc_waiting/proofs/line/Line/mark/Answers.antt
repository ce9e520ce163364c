-- The piece under the key is taken.
use Rattle.std.proofs.Common.{◌∙◌, sym, ap, true}
use Rattle.hc_queue.specs.Queue.{pieces_of}
use Rattle.hc_waiting.proofs.Numbered.{changed-is, none-changed, none-there}
use Rattle.hc_waiting.proofs.line.Line.mark.Goals as goal

pub returns-in-Some-clause-pieces : goal.returns-in-Some-clause-pieces
returns-in-Some-clause-pieces g c = rw (← c.self.view_is) (ap pieces_of c.mark.ensures.entries ∙ changed-is (λ piece. record piece { taken = true }) c.args.key.now c.in-Some.number 0 c.is_sound.ensures.rising.0 c.self.inside.queue.entries c.is_sound.ensures.rising.1 c.is_sound.ensures.apart (sym c.number_of.ensures ∙ c.in-Some.is))

pub returns-in-None-clause-pieces : goal.returns-in-None-clause-pieces
returns-in-None-clause-pieces g c = rw (← c.self.view_is) (sym (none-changed (λ piece. record piece { taken = true }) c.args.key.now (pieces_of c.self.inside.queue.entries) (none-there c.args.key.now c.self.inside.queue.entries (sym c.number_of.ensures ∙ c.in-None.is))))
