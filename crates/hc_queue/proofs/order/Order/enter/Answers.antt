use Rattle.hc_queue.specs.Queue.{open_lane}
use Rattle.hc_queue.proofs.Keeping.{new-in-lane, new-waiting, ready-below, kept-entered, joined-spare}
use Rattle.hc_queue.proofs.order.Order.enter.Goals as goal
use Rattle.hc_queue.proofs.order.Order.enter.Goals.{in-Ok, in-Err}

pub insert-requires-clause-lanes : goal.insert-requires-clause-lanes
insert-requires-clause-lanes g c = let s = c.self.inside in new-in-lane c.args.piece.lane c.args.number s.pieces.entries s.lanes.keys (rw (← c.self.view_is) at c.requires.rises) c.self.invariant.in_lanes

pub insert-requires-clause-waits : goal.insert-requires-clause-waits
insert-requires-clause-waits g c = let s = c.self.inside in new-waiting _ c.args.number s.pieces.entries s.waits.keys (rw (← c.self.view_is) at c.requires.rises) c.self.invariant.by_lane

pub insert-requires-clause-below : goal.insert-requires-clause-below
insert-requires-clause-below g c = let s = c.self.inside in ready-below c.args.number _ s.pieces.entries s.ready.keys (rw (← c.self.view_is) at c.requires.rises) c.self.invariant.serves

pub invariant_of-self : goal.invariant_of-self
invariant_of-self g c =
    let s = c.self.inside in
    elim c.match-insert.branch [
      | in-Ok w ↦
          rw (w.in-Ok.ensures.pieces, w.in-Ok.ensures.lanes, w.in-Ok.ensures.waits, w.in-Ok.ensures.ready, c.goes_first-first.ensures)
          (kept-entered c.args.number c.args.piece s.pieces.entries s.lanes.keys s.waits.keys s.ready.keys s.stale.items _ c.insert.ensures.ordered c.insert.ensures.waits_ordered
          (rw (← c.self.view_is) at c.requires.rises) (rw (← c.self.view_is) at c.requires.ready) (rw (← c.self.view_is) at c.requires.spare) c.self.invariant)
      | in-Err w ↦ rw (w.in-Err.ensures.same_pieces, w.in-Err.ensures.same_lanes, w.in-Err.ensures.same_waits, w.in-Err.ensures.same_ready) c.self.invariant
    ]

pub returns-clause-spare : goal.returns-clause-spare
returns-clause-spare g c =
    let s = c.self.inside in
    elim c.match-insert.branch [
      | in-Ok w ↦ rw (w.result-is, ← c.self.view_is) (joined-spare (open_lane c.args.piece) c.args.number s.stale.items s.waits.keys _ _ w.in-Ok.ensures.waits)
      | in-Err w ↦ rw w.result-is tt
    ]
