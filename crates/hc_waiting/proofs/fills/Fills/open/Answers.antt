-- A fill comes behind the others.
use Rattle.std.proofs.Common.{ap, Some, None, false, refl}
use Rattle.hc_queue.specs.declared.queue.Piece.{Piece}
use Rattle.hc_queue.specs.declared.keyed.Named.{Named}
use Rattle.hc_waiting.specs.declared.fills.Bringing.{Bringing}
use Rattle.hc_waiting.proofs.Filling.{no_fill, filled_with}
use Rattle.hc_waiting.proofs.Led.{led_pushed}
use Rattle.hc_waiting.proofs.fills.Fills.open.Goals as goal

pub push-requires-clause-absent : goal.push-requires-clause-absent
push-requires-clause-absent g c = no_fill c.args.key c.self.inside.line.pieces (rw (← c.self.view_is) at c.requires.absent)

pub invariant_of-self : goal.invariant_of-self
invariant_of-self g c =
    let i = c.self.invariant in
    let last : Piece (Named (Bringing _) _) = record { lane = Some c.lane_of-lane.result; taken = false; value = record { key = c.args.key; value = record { waiters = c.args.waiters; job = None } } } in
    (i.0, i.1, i.2, rw c.push.ensures.pieces (filled_with c.self.inside.flash last c.self.inside.line.pieces (ap Some c.lane_of-lane.ensures) refl i.3), rw c.push.ensures.pieces (led_pushed c.self.inside.keys last c.self.inside.line.pieces refl i.4))
