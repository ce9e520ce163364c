use Rattle.std.proofs.Common.{ap, ◌∙◌}
use Rattle.hc_queue.specs.Queue.{left}
use Rattle.hc_queue.proofs.Besides.{undo-lane}
use Rattle.hc_queue.proofs.lanes.join_both.Goals as goal

pub returns-in-Err-clause-same_lanes : goal.returns-in-Err-clause-same_lanes
returns-in-Err-clause-same_lanes g c = c.leave.ensures ∙ (ap (left c.args.lane c.args.number) c.in_ok-join.ensures.ok ∙ undo-lane c.args.lane c.args.number c.args.lanes.now.keys c.requires)
