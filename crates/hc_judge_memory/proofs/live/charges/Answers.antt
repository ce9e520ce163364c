use Rattle.std.proofs.Common.{[], take}
use Rattle.hc_history.specs.Books as books
use Rattle.hc_history.specs.Lawful.{past}
use Rattle.hc_legal.proofs.Past.{book-more}
use Rattle.hc_judge_memory.proofs.live.charges.Goals as goal

pub loop-note-preserved : goal.loop-note-preserved
loop-note-preserved g c =
    let log = c.args.notes.now in
    let i = c.loop-note.note-index in
    book-more books.charges log i c.note-item.result _ c.loop-note-test.true c.note-item.is (c.in_ok-charge_note.ensures (past [] (take i log)) c.loop-note.invariant)
