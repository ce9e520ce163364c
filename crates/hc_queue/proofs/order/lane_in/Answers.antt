use Rattle.std.proofs.Common.{ap, sym, ◌∙◌}
use Rattle.hc_queue.proofs.Keeping.{lane_of, lane-is}
use Rattle.hc_queue.proofs.order.lane_in.Goals as goal

pub returns-in-Some : goal.returns-in-Some
returns-in-Some g c = sym (lane-is c.args.number c.args.pieces.now.entries ∙ ap lane_of (sym c.in-Some.ensures.value))

pub returns-in-None : goal.returns-in-None
returns-in-None g c = sym (lane-is c.args.number c.args.pieces.now.entries ∙ ap lane_of (sym c.in-None.ensures.value))
