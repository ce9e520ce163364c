-- The oldest put goes.
use Rattle.std.proofs.Common.{◌∙◌, ap, sym}
use Rattle.std.specs.Prelude.{option_map}
use Rattle.std.proofs.lemmas.Option.{slice_get-map}
use Rattle.hc_waiting.specs.Puts.{put_in}
use Rattle.hc_waiting.proofs.Mapped.{but-first-map}
use Rattle.hc_waiting.proofs.Pieces.{laned_but_first}
use Rattle.hc_waiting.proofs.puts.Puts.remove_oldest.Goals as goal

pub invariant_of-self : goal.invariant_of-self
invariant_of-self g c = let i = c.self.invariant in (i.0, i.1, i.2, rw c.remove_oldest.ensures.pieces (laned_but_first c.self.inside.flash c.self.inside.line.pieces i.3))

pub returns-clause-put : goal.returns-clause-put
returns-clause-put g c = rw (← c.self.view_is) (c.put_by.ensures ∙ ap (option_map put_in) c.remove_oldest.ensures.piece ∙ sym (slice_get-map put_in c.self.inside.line.pieces 0))

pub returns-clause-puts : goal.returns-clause-puts
returns-clause-puts g c = rw (← c.self.view_is, c.remove_oldest.ensures.pieces) (but-first-map put_in c.self.inside.line.pieces)
