use Rattle.std.proofs.Common.{sym, ◌∙◌}
use Rattle.hc_verdict.proofs.Finding.{found-later, found-here}
use Rattle.hc_verdict.proofs.lawful.first_unlawful.Goals as goal

pub returns-then-not-branch : goal.returns-then-not-branch
returns-then-not-branch g c = found-here c.args.config.now c.args.log.now c.notes.place c.index-log-place.result c.notes-test.true c.index-log-place.is c.notes.invariant (sym c.if-not-branch.true ∙ c.in_ok-is_allowed.ensures)

pub notes-preserved : goal.notes-preserved
notes-preserved g c = found-later c.args.config.now c.args.log.now c.notes.place c.index-log-place.result c.notes-test.true c.index-log-place.is c.notes.invariant (sym c.if-not-branch.false ∙ c.in_ok-is_allowed.ensures)
