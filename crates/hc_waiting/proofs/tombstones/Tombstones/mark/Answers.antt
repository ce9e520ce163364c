-- A delete is out.
use Rattle.hc_waiting.proofs.Stones.{stones_taken, buried_taken}
use Rattle.hc_waiting.proofs.tombstones.Tombstones.mark.Goals as goal

pub invariant_of-self : goal.invariant_of-self
invariant_of-self g c = let i = c.self.invariant in (i.0, i.1, i.2, rw c.mark.ensures.pieces (buried_taken c.self.inside.flash c.args.key.now c.self.inside.line.pieces i.3))

pub returns-clause-stones : goal.returns-clause-stones
returns-clause-stones g c = rw (← c.self.view_is, c.mark.ensures.pieces) (stones_taken c.args.key.now c.self.inside.line.pieces)
