use Rattle.std.proofs.Common.{[], ◌∙◌}
use Rattle.hc_history.specs.Lawful.{past}
use Rattle.hc_client_records.specs.Records as records
use Rattle.hc_client_records.proofs.Past.{found-last}
use Rattle.hc_client_records.proofs.calls.answered.Goals as goal

pub returns-in-Some-answered_by : goal.returns-in-Some-answered_by
returns-in-Some-answered_by c = c.in-Some-answered_by.ensures (past [] c.in-Some.older.now) ∙ found-last (records.answered c.args.call) c.loop-note.left.now c.in-Some.older.now c.in-Some.note.now c.in-Some.ensures.cases.0 ∙ c.loop-note.invariant

pub loop-note-preserved : goal.loop-note-preserved
loop-note-preserved c = c.in_default-answered_by.ensures (past [] c.in-Some.older.now) ∙ found-last (records.answered c.args.call) c.loop-note.left.now c.in-Some.older.now c.in-Some.note.now c.in-Some.ensures.cases.0 ∙ c.loop-note.invariant
