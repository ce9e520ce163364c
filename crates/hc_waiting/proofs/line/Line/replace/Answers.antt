-- The value under the key is another.
use Rattle.std.proofs.Common.{◌∙◌, sym, ap}
use Rattle.std.specs.Prelude.{option_map}
use Rattle.hc_queue.specs.Queue.{pieces_of}
use Rattle.hc_queue.specs.Keys.{value_of}
use Rattle.hc_waiting.proofs.Numbered.{at-number, changed-is, none-changed, none-there}
use Rattle.hc_waiting.proofs.line.Line.replace.Goals as goal

pub returns-in-Some-clause-old : goal.returns-in-Some-clause-old
returns-in-Some-clause-old g c = rw (← c.self.view_is) (c.replace.ensures.value ∙ ap (option_map value_of) (at-number c.args.key.now c.in-Some.number 0 c.is_sound.ensures.rising.0 c.self.inside.queue.entries c.is_sound.ensures.rising.1 (sym c.number_of.ensures ∙ c.in-Some.is)))

pub returns-in-Some-clause-pieces : goal.returns-in-Some-clause-pieces
returns-in-Some-clause-pieces g c = rw (← c.self.view_is) (ap pieces_of c.replace.ensures.entries ∙ changed-is (λ piece. record piece { value = record piece.value { value = c.args.value } }) c.args.key.now c.in-Some.number 0 c.is_sound.ensures.rising.0 c.self.inside.queue.entries c.is_sound.ensures.rising.1 c.is_sound.ensures.apart (sym c.number_of.ensures ∙ c.in-Some.is))

pub returns-in-None-clause-old : goal.returns-in-None-clause-old
returns-in-None-clause-old g c = rw (← c.self.view_is) (sym (ap (option_map value_of) (none-there c.args.key.now c.self.inside.queue.entries (sym c.number_of.ensures ∙ c.in-None.is))))

pub returns-in-None-clause-pieces : goal.returns-in-None-clause-pieces
returns-in-None-clause-pieces g c = rw (← c.self.view_is) (sym (none-changed (λ piece. record piece { value = record piece.value { value = c.args.value } }) c.args.key.now (pieces_of c.self.inside.queue.entries) (none-there c.args.key.now c.self.inside.queue.entries (sym c.number_of.ensures ∙ c.in-None.is))))
