use Rattle.std.proofs.Common.{sym, ◌∙◌}
use Rattle.hc_block.proofs.Handing.{passed}
use Rattle.hc_block.proofs.leads.first_full.Goals as goal

pub loop-at-preserved : goal.loop-at-preserved
loop-at-preserved g c = passed c.args.segments.now c.loop-at.at c.loop-at-test.true (sym c.is_empty_at.ensures ∙ c.if-not-is_empty_at.false) ∙ c.loop-at.invariant
