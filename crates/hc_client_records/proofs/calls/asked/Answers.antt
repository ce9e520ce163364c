use Rattle.std.proofs.Common.{[], ◌∙◌}
use Rattle.hc_history.specs.Lawful.{past}
use Rattle.hc_client_records.specs.Records as records
use Rattle.hc_client_records.proofs.Past.{found-last}
use Rattle.hc_client_records.proofs.calls.asked.Goals as goal

pub returns-in-Some-begun_by : goal.returns-in-Some-begun_by
returns-in-Some-begun_by c = c.in-Some-begun_by.ensures (past [] c.in-Some.older.now) ∙ found-last (records.asked c.args.call) c.loop-note.left.now c.in-Some.older.now c.in-Some.note.now c.in-Some.ensures.cases.0 ∙ c.loop-note.invariant

pub loop-note-preserved : goal.loop-note-preserved
loop-note-preserved c = c.in_default-begun_by.ensures (past [] c.in-Some.older.now) ∙ found-last (records.asked c.args.call) c.loop-note.left.now c.in-Some.older.now c.in-Some.note.now c.in-Some.ensures.cases.0 ∙ c.loop-note.invariant
