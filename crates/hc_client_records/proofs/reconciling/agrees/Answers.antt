use Rattle.std.proofs.Common.{[], take, subst, ◌∙◌}
use Rattle.hc_history.specs.Lawful.{past}
use Rattle.hc_client_records.specs.Records.{Record, finished_at}
use Rattle.hc_client_records.specs.Judge.{Leaves}
use Rattle.hc_client_records.proofs.Ending.{left-here}
use Rattle.hc_client_records.proofs.reconciling.agrees.Goals as goal

pub loop-place-preserved : goal.loop-place-preserved
loop-place-preserved c =
    let leaves = subst (λ (r : Record). Leaves (finished_at r.client (past [] (take c.loop-place.place c.args.log.now)) c.index-log-place.result) c.loop-place.left.now c.in-Some.rest.now) c.answers.view_is c.in-Some.ensures.some in
    left-here c.args.answers.now.client c.args.log.now c.loop-place.place c.index-log-place.result c.loop-place.left.now c.in-Some.rest.now c.loop-place-test.true c.index-log-place.is leaves ∙ c.loop-place.invariant
