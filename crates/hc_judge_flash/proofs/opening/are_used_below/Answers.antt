use Rattle.std.proofs.Common.{◌∙◌, sym}
use Rattle.hc_history.specs.Regions.{is_one_of}
use Rattle.hc_judge_flash.proofs.Below.{one_more, fails}
use Rattle.hc_judge_flash.proofs.opening.are_used_below.Goals as goal

pub returns-then-not-contains : goal.returns-then-not-contains
returns-then-not-contains c = fails (λ lower. is_one_of lower c.args.regions.now) c.args.region c.loop-lower.lower-counter c.loop-lower-test.true (sym c.contains.ensures.value ∙ c.if-not-contains.true)

pub loop-lower-preserved : goal.loop-lower-preserved
loop-lower-preserved c = one_more (λ lower. is_one_of lower c.args.regions.now) c.loop-lower.lower-counter c.loop-lower.invariant (sym c.contains.ensures.value ∙ c.if-not-contains.false)
