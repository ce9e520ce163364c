use Rattle.std.proofs.Common.{[], take}
use Rattle.hc_history.specs.Seen.{reply_of}
use Rattle.hc_history.specs.Lawful.{past}
use Rattle.hc_judge_memory.specs.Calls as spec
use Rattle.hc_legal.proofs.Past.{book-more}
use Rattle.hc_judge_memory.proofs.calls.is_changed_by.Goals as goal

pub loop-note-preserved : goal.loop-note-preserved
loop-note-preserved g c = book-more (spec.is_changed_by c.args.call (reply_of c.args.reply.now) c.args.key.now) c.args.notes.now c.loop-note.note-index c.note-item.result _ c.loop-note-test.true c.note-item.is (c.is_changed_after-changed.ensures (past [] (take c.loop-note.note-index c.args.notes.now)) c.loop-note.invariant)
