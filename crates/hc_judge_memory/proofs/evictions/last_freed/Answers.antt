use Rattle.std.proofs.Common.{[], ◌∙◌}
use Rattle.hc_history.specs.Lawful.{past}
use Rattle.hc_judge_memory.specs.Evictions as spec
use Rattle.hc_legal.proofs.Past.{book-last}
use Rattle.hc_judge_memory.proofs.evictions.last_freed.Goals as goal

pub returns-in-Some : goal.returns-in-Some
returns-in-Some g c = c.in-Some.ensures (past [] c.in_ok-last.before.now) ∙ book-last spec.last_freed c.args.notes.now c.in_ok-last.before.now c.in_ok-last.last.now c.in_ok-last.ensures.cases.0

pub returns-in-None : goal.returns-in-None
returns-in-None g c = c.in-None.ensures (past [] c.in_ok-last.before.now) ∙ book-last spec.last_freed c.args.notes.now c.in_ok-last.before.now c.in_ok-last.last.now c.in_ok-last.ensures.cases.0
