use Rattle.std.proofs.Common.{◌≡◌, ap, sym, ◌∙◌}
use Rattle.hc_queue.specs.Queue.{left, lane_at, without_number}
use Rattle.hc_queue.proofs.Gone.{remove-entry}
use Rattle.hc_queue.proofs.Keeping.{lookup-is, turn-waits, kept-gone, room-ended}
use Rattle.hc_queue.proofs.order.Order.remove.Goals as goal

pub end_turn-requires-clause-waits : goal.end_turn-requires-clause-waits
end_turn-requires-clause-waits g c = let s = c.self.inside in turn-waits c.args.number c.turn_in-turn.result s.pieces.entries s.waits.keys c.self.invariant.by_lane (sym c.turn_in-turn.ensures)

pub invariant_of-self : goal.invariant_of-self
invariant_of-self g c =
    let s = c.self.inside in
    let n = c.args.number in
    let t = c.turn_in-turn.result in
    let gone : c.remove.new.self.entries ≡ without_number n s.pieces.entries = c.remove.ensures.entries ∙ remove-entry n 0 c.self.invariant.rises.0 s.pieces.entries c.self.invariant.rises.1 in
    let lanes : c.leave.new.pairs.keys ≡ left (lane_at n s.pieces.entries) n s.lanes.keys = c.leave.ensures ∙ ap (λ o. left o n s.lanes.keys) c.lane_in-lane.ensures in
    rw (gone, lanes, c.end_turn.ensures.waits, c.end_turn.ensures.ready, c.end_turn.ensures.stale, c.end_turn.ensures.capacity)
    (kept-gone n t s.pieces.entries s.lanes.keys s.waits.keys s.ready.keys s.stale.items _ c.self.invariant (sym c.turn_in-turn.ensures)
    (room-ended n t s.waits.keys s.ready.keys s.stale.items _ _ c.end_turn.ensures.waits c.end_turn.ensures.stale c.end_turn.ensures.room))

pub returns-clause-piece : goal.returns-clause-piece
returns-clause-piece g c = rw (← c.self.view_is) (c.remove.ensures.value ∙ lookup-is c.args.number c.self.inside.pieces.entries)

pub returns-clause-entries : goal.returns-clause-entries
returns-clause-entries g c = rw (← c.self.view_is) (c.remove.ensures.entries ∙ remove-entry c.args.number 0 c.self.invariant.rises.0 c.self.inside.pieces.entries c.self.invariant.rises.1)
