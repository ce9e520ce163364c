-- The piece under the key goes.
use Rattle.std.proofs.Common.{◌∙◌, ap}
use Rattle.hc_queue.specs.Queue.{pieces_of}
use Rattle.hc_waiting.proofs.Numbered.{numbered-is, without-is}
use Rattle.hc_waiting.proofs.line.Line.remove.Goals as goal

pub returns-clause-piece : goal.returns-clause-piece
returns-clause-piece g c = rw (← c.self.view_is) (c.remove.ensures.piece ∙ numbered-is c.args.key.now 0 c.is_sound.ensures.rising.0 c.self.inside.queue.entries c.is_sound.ensures.rising.1)

pub returns-clause-pieces : goal.returns-clause-pieces
returns-clause-pieces g c = rw (← c.self.view_is) (ap pieces_of c.remove.ensures.entries ∙ without-is c.args.key.now c.self.inside.queue.entries)
