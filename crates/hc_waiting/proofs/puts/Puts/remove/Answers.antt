-- A put goes.
use Rattle.std.proofs.Common.{◌∙◌, ap, not}
use Rattle.std.specs.Prelude.{option_map}
use Rattle.hc_waiting.specs.Line.{has_key}
use Rattle.hc_waiting.specs.Puts.{put_in}
use Rattle.hc_waiting.proofs.Pieces.{put_there, puts_without, laned_without}
use Rattle.hc_waiting.proofs.puts.Puts.remove.Goals as goal

pub invariant_of-self : goal.invariant_of-self
invariant_of-self g c = let i = c.self.invariant in (i.0, i.1, i.2, rw c.remove.ensures.pieces (laned_without c.self.inside.flash (λ piece. not (has_key c.args.key.now piece)) c.self.inside.line.pieces i.3))

pub returns-clause-put : goal.returns-clause-put
returns-clause-put g c = rw (← c.self.view_is) (c.put_by.ensures ∙ ap (option_map put_in) c.remove.ensures.piece ∙ put_there c.args.key.now c.self.inside.line.pieces)

pub returns-clause-puts : goal.returns-clause-puts
returns-clause-puts g c = rw (← c.self.view_is, c.remove.ensures.pieces) (puts_without c.args.key.now c.self.inside.line.pieces)
