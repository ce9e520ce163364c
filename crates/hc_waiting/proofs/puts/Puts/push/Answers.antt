-- A put comes behind the others.
use Rattle.std.proofs.Common.{refl}
use Rattle.hc_waiting.proofs.Pieces.{not_there, laned_with}
use Rattle.hc_waiting.proofs.puts.Puts.push.Goals as goal

pub push-requires-clause-absent : goal.push-requires-clause-absent
push-requires-clause-absent g c = not_there c.args.entry.key c.self.inside.line.pieces (rw (← c.self.view_is) at c.requires.absent)

pub invariant_of-self : goal.invariant_of-self
invariant_of-self g c = let i = c.self.invariant in (i.0, i.1, i.2, rw c.push.ensures.pieces (laned_with c.self.inside.flash _ c.self.inside.line.pieces c.lane_of-lane.ensures refl i.3))
