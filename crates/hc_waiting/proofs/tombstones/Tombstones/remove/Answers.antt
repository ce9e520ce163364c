-- A tombstone ends.
use Rattle.std.proofs.Common.{◌∙◌, ap, not}
use Rattle.std.specs.Prelude.{is_some}
use Rattle.hc_waiting.specs.Line.{has_key}
use Rattle.hc_waiting.proofs.Stones.{stone_there, stones_without, buried_where, one_stone}
use Rattle.hc_waiting.proofs.tombstones.Tombstones.remove.Goals as goal

pub invariant_of-self : goal.invariant_of-self
invariant_of-self g c = let i = c.self.invariant in (i.0, i.1, i.2, rw c.remove.ensures.pieces (buried_where c.self.inside.flash (λ piece. not (has_key c.args.key.now piece)) c.self.inside.line.pieces i.3))

pub returns-clause-there : goal.returns-clause-there
returns-clause-there g c = rw (← c.self.view_is) (c.is_some.ensures ∙ ap is_some c.remove.ensures.piece ∙ stone_there c.args.key.now c.self.inside.line.pieces)

pub returns-clause-stones : goal.returns-clause-stones
returns-clause-stones g c = rw (← c.self.view_is, c.remove.ensures.pieces) (stones_without c.args.key.now c.self.inside.line.pieces)

pub returns-clause-one : goal.returns-clause-one
returns-clause-one g c = rw (← c.self.view_is) (one_stone c.args.key.now c.is_some.result c.self.inside.line.pieces c.is_sound.ensures (c.is_some.ensures ∙ ap is_some c.remove.ensures.piece))
