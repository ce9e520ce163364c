-- A tombstone comes behind the others.
use Rattle.std.proofs.Common.{ap, Some}
use Rattle.hc_waiting.proofs.Stones.{no_stone, buried_with}
use Rattle.hc_waiting.proofs.tombstones.Tombstones.push.Goals as goal

pub push-requires-clause-absent : goal.push-requires-clause-absent
push-requires-clause-absent g c = no_stone c.args.key c.self.inside.line.pieces (rw (← c.self.view_is) at c.requires.absent)

pub invariant_of-self : goal.invariant_of-self
invariant_of-self g c = let i = c.self.invariant in (i.0, i.1, i.2, rw c.push.ensures.pieces (buried_with c.self.inside.flash _ c.self.inside.line.pieces (ap Some c.lane_of-lane.ensures) i.3))
