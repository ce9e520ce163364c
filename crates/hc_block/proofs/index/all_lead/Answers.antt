use Rattle.std.proofs.Common.{sym, ◌∙◌}
use Rattle.hc_block.specs.Resting.{leads_well}
use Rattle.hc_block.proofs.Handing.{next_passes, next_fails, all_passed}
use Rattle.hc_block.proofs.index.all_lead.Goals as goal

pub loop-segment-preserved : goal.loop-segment-preserved
loop-segment-preserved g c =
    next_passes (leads_well c.args.flash.now c.args.regions.now) c.args.segments.now c.loop-segment.segment-index c.segment-item.result _ c.loop-segment-test.true c.segment-item.is c.loop-segment.invariant (sym c.all_lead.ensures ∙ c.if-not-all_lead.false)

pub returns-then-not-all_lead : goal.returns-then-not-all_lead
returns-then-not-all_lead g c =
    next_fails (leads_well c.args.flash.now c.args.regions.now) c.args.segments.now c.loop-segment.segment-index c.segment-item.result _ c.loop-segment-test.true c.segment-item.is c.loop-segment.invariant (sym c.all_lead.ensures ∙ c.if-not-all_lead.true)

pub returns : goal.returns
returns g c = all_passed (leads_well c.args.flash.now c.args.regions.now) c.args.segments.now c.loop-segment.segment-index _ c.loop-segment-test.false c.loop-segment.invariant
