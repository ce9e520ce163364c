use Rattle.std.proofs.Common.{ap, ◌∙◌}
use Rattle.hc_client_records.specs.Judge as judge
use Rattle.hc_client_records.proofs.Walking.{all-more}
use Rattle.hc_client_records.proofs.reconciling.agree_with.Goals as goal

pub loop-who-preserved : goal.loop-who-preserved
loop-who-preserved g c = λ log finished.
    all-more (judge.agrees log) g.T.Recorded.recorded c.args.records.now c.loop-who.who-index c.who-item.result c.agrees_with.result c.loop-who-test.true c.who-item.is (c.agrees_with.ensures log finished ∙ ap (judge.agrees log) c.record.ensures) c.if-not-agrees_with.false
    ∙ c.loop-who.invariant log finished
