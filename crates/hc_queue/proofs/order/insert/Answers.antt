use Rattle.std.proofs.Common.{ap, sym, subst, ◌∙◌, Option, ℕ}
use Rattle.hc_queue.specs.Queue.{left, with, without, IsNew}
use Rattle.hc_queue.proofs.Besides.{undo-lane, undo-ready}
use Rattle.hc_queue.proofs.Pushed.{entry-end}
use Rattle.hc_queue.proofs.order.insert.Goals as goal

pub returns-in_default-add-clause-same_lanes : goal.returns-in_default-add-clause-same_lanes
returns-in_default-add-clause-same_lanes g c =
    c.leave-in_default-add.ensures ∙ (ap (left c.args.piece.lane c.args.number) c.in-Ok.ensures.lanes ∙ undo-lane c.args.piece.lane c.args.number c.args.lanes.now.keys c.requires.lanes)

pub returns-in_default-add-clause-same_waits : goal.returns-in_default-add-clause-same_waits
returns-in_default-add-clause-same_waits g c =
    let turn = c.waiting_lane-turn.result in
    c.leave.ensures ∙ (ap (left turn c.args.number) c.in-Ok.ensures.waits
    ∙ undo-lane turn c.args.number c.args.waits.now.keys (subst (λ (o : Option ℕ). IsNew o c.args.number c.args.waits.now.keys) (sym c.waiting_lane-turn.ensures) c.requires.waits))

pub returns-in-Ok-insert-clause-pieces : goal.returns-in-Ok-insert-clause-pieces
returns-in-Ok-insert-clause-pieces g c = c.in-Ok-insert.ensures.entries ∙ entry-end 0 c.args.number c.args.piece c.args.pieces.now.entries c.requires.rises

pub returns-clause-same_lanes : goal.returns-clause-same_lanes
returns-clause-same_lanes g c =
    c.leave-in-Err-2.ensures ∙ (ap (left c.args.piece.lane c.args.number) c.in-Ok.ensures.lanes ∙ undo-lane c.args.piece.lane c.args.number c.args.lanes.now.keys c.requires.lanes)

pub returns-clause-same_waits : goal.returns-clause-same_waits
returns-clause-same_waits g c =
    let turn = c.waiting_lane-turn.result in
    c.leave-in-Err.ensures ∙ (ap (left turn c.args.number) c.in-Ok.ensures.waits
    ∙ undo-lane turn c.args.number c.args.waits.now.keys (subst (λ (o : Option ℕ). IsNew o c.args.number c.args.waits.now.keys) (sym c.waiting_lane-turn.ensures) c.requires.waits))

pub returns-clause-same_ready : goal.returns-clause-same_ready
returns-clause-same_ready g c =
    c.drop_out.ensures ∙ ((λ i. without (c.given-in-Err.ensures i) ((c.in-Ok-add.ensures.ok ∙ ap (λ o. with o c.args.ready.now.keys) c.given.ensures) i)) ∙ undo-ready c.args.first c.args.number c.args.ready.now.keys c.requires.below)
