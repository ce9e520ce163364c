use Rattle.std.proofs.Common.{ap, sym, ◌∙◌}
use Rattle.hc_queue.proofs.Besides.{first-beside, heads}
use Rattle.hc_queue.proofs.lanes.first_in.Goals as goal

pub returns-in-Some : goal.returns-in-Some
returns-in-Some g c = sym (rw (← c.from-from.ensures) (first-beside c.from-from.result c.args.pairs.now.keys ∙ ap heads (sym (c.range.ensures.between tt) ∙ c.in-Some.ensures.steps)))

pub returns-in-None : goal.returns-in-None
returns-in-None g c = sym (rw (← c.from-from.ensures) (first-beside c.from-from.result c.args.pairs.now.keys ∙ ap heads (sym (c.range.ensures.between tt) ∙ c.in-None.ensures.steps.0)))
