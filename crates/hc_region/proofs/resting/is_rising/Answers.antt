use Rattle.std.proofs.Common.{◌∙◌}
use Rattle.hc_region.proofs.Rising.{falls}
use Rattle.hc_region.proofs.resting.is_rising.Goals as goal

pub returns-then-offset-from : goal.returns-then-offset-from
returns-then-offset-from c = falls c.loop-x.from c.args.to c.loop-x.x-index c.from-offset.result c.args.appended.now c.x-item.result c.loop-x-test.true c.x-item.is (c.from-offset.ensures ∙ c.offset.ensures) c.if-offset-from.true c.loop-x.invariant
