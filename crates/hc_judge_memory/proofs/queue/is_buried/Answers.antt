use Rattle.std.proofs.Common.{List, [], take}
use Rattle.hc_history.specs.Note.{Note}
use Rattle.hc_history.specs.Books as books
use Rattle.hc_history.specs.Books.{is_among}
use Rattle.hc_history.specs.Lawful.{past}
use Rattle.hc_legal.proofs.Past.{book-more}
use Rattle.hc_judge_memory.proofs.queue.is_buried.Goals as goal

pub loop-note-preserved : goal.loop-note-preserved
loop-note-preserved g c = book-more (λ (older : List Note). is_among c.args.key.now (books.buried older)) c.args.notes.now c.loop-note.note-index c.note-item.result _ c.loop-note-test.true c.note-item.is (c.is_buried_after-buried.ensures (past [] (take c.loop-note.note-index c.args.notes.now)) c.loop-note.invariant)
