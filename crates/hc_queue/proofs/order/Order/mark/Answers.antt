use Rattle.std.proofs.Common.{sym}
use Rattle.hc_queue.proofs.Keeping.{turn-waits, kept-marked, room-ended}
use Rattle.hc_queue.proofs.order.Order.mark.Goals as goal

pub end_turn-requires-clause-waits : goal.end_turn-requires-clause-waits
end_turn-requires-clause-waits g c = let s = c.self.inside in turn-waits c.args.number c.turn_in-turn.result s.pieces.entries s.waits.keys c.self.invariant.by_lane (sym c.turn_in-turn.ensures)

pub invariant_of-self : goal.invariant_of-self
invariant_of-self g c =
    let s = c.self.inside in
    let n = c.args.number in
    let t = c.turn_in-turn.result in
    rw (c.mark_in.ensures c.self.invariant.rises.0 c.self.invariant.rises.1, c.end_turn.ensures.waits, c.end_turn.ensures.ready, c.end_turn.ensures.stale, c.end_turn.ensures.capacity)
    (kept-marked n t s.pieces.entries s.lanes.keys s.waits.keys s.ready.keys s.stale.items _ c.self.invariant (sym c.turn_in-turn.ensures)
    (room-ended n t s.waits.keys s.ready.keys s.stale.items _ _ c.end_turn.ensures.waits c.end_turn.ensures.stale c.end_turn.ensures.room))
