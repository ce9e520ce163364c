use Rattle.std.proofs.Common.{List, [], take}
use Rattle.hc_history.specs.Note.{Note}
use Rattle.hc_history.specs.Lawful.{past}
use Rattle.hc_history.specs.Pages.{bytes_at}
use Rattle.hc_judge_memory.specs.Lies as spec
use Rattle.hc_legal.proofs.Past.{book-more}
use Rattle.hc_judge_memory.proofs.lies.differs.Goals as goal

pub loop-note-preserved : goal.loop-note-preserved
loop-note-preserved g c = book-more (λ (older : List Note). spec.differs (bytes_at older c.args.page) c.args.bytes.now) c.args.notes.now c.loop-note.note-index c.note-item.result _ c.loop-note-test.true c.note-item.is (c.differs_after-lie.ensures (past [] (take c.loop-note.note-index c.args.notes.now)) c.loop-note.invariant)
