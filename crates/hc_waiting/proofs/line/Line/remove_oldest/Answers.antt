-- The oldest piece goes.
use Rattle.std.proofs.Common.{◌∙◌, sym, ap}
use Rattle.hc_queue.specs.Queue.{pieces_of}
use Rattle.hc_waiting.proofs.Numbered.{oldest-is, no-oldest}
use Rattle.hc_waiting.proofs.line.Line.remove_oldest.Goals as goal

pub returns-in-Some-clause-piece : goal.returns-in-Some-clause-piece
returns-in-Some-clause-piece g c = rw (← c.self.view_is) (c.remove_at.ensures.piece ∙ (oldest-is c.in-Some.number 0 c.is_sound.ensures.rising.0 c.self.inside.queue.entries c.is_sound.ensures.rising.1 (sym c.oldest.ensures ∙ c.in-Some.is)).0)

pub returns-in-Some-clause-pieces : goal.returns-in-Some-clause-pieces
returns-in-Some-clause-pieces g c = rw (← c.self.view_is) (ap pieces_of c.remove_at.ensures.entries ∙ (oldest-is c.in-Some.number 0 c.is_sound.ensures.rising.0 c.self.inside.queue.entries c.is_sound.ensures.rising.1 (sym c.oldest.ensures ∙ c.in-Some.is)).1)

pub returns-in-None-clause-piece : goal.returns-in-None-clause-piece
returns-in-None-clause-piece g c = rw (← c.self.view_is) (sym (no-oldest c.self.inside.queue.entries (sym c.oldest.ensures ∙ c.in-None.is)).0)

pub returns-in-None-clause-pieces : goal.returns-in-None-clause-pieces
returns-in-None-clause-pieces g c = rw (← c.self.view_is) (sym (no-oldest c.self.inside.queue.entries (sym c.oldest.ensures ∙ c.in-None.is)).1)
