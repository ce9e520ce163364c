use Rattle.std.proofs.Common.{sym, ◌∙◌}
use Rattle.hc_judge_memory.proofs.Lying.{honest-more, first-here}
use Rattle.hc_judge_memory.proofs.lies.first_lie.Goals as goal

pub returns-then-is_lie : goal.returns-then-is_lie
returns-then-is_lie g c = first-here c.args.log.now c.loop-place.place c.index-log-place.result c.loop-place-test.true c.index-log-place.is c.loop-place.invariant (sym c.is_lie.ensures ∙ c.if-is_lie.true)

pub loop-place-preserved : goal.loop-place-preserved
loop-place-preserved g c = honest-more c.args.log.now c.loop-place.place c.index-log-place.result c.loop-place-test.true c.index-log-place.is c.loop-place.invariant (sym c.is_lie.ensures ∙ c.if-is_lie.false)
