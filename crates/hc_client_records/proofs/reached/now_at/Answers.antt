use Rattle.std.proofs.Common.{[], take}
use Rattle.hc_history.specs.Books as books
use Rattle.hc_history.specs.Lawful.{past}
use Rattle.hc_client_records.proofs.Walking.{book-more}
use Rattle.hc_client_records.proofs.reached.now_at.Goals as goal

pub loop-note-preserved : goal.loop-note-preserved
loop-note-preserved c = book-more books.now_at c.moment_after-moment.result c.args.notes.now c.loop-note.note-index c.note-item.result c.loop-note-test.true c.note-item.is (c.moment_after-moment.ensures (past [] (take c.loop-note.note-index c.args.notes.now)) c.loop-note.invariant)
