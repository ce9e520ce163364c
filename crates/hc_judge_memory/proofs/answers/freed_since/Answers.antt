use Rattle.std.proofs.Common.{List, [], take, ◌∙◌}
use Rattle.hc_history.specs.Note.{Note}
use Rattle.hc_history.specs.Books as books
use Rattle.hc_history.specs.Lawful as lawful
use Rattle.hc_history.specs.Lawful.{past}
use Rattle.hc_legal.proofs.Past.{book-more}
use Rattle.hc_judge_memory.proofs.answers.freed_since.Goals as goal

pub loop-note-preserved : goal.loop-note-preserved
loop-note-preserved g c =
    let log = c.args.notes.now in
    let i = c.loop-note.note-index in
    let before = past [] (take i log) in
    let now = c.loop-note.invariant in
    record {
      live = book-more books.charges log i c.note-item.result _ c.loop-note-test.true c.note-item.is (c.in_ok-charge_note.ensures before now.live);
      is_freed = book-more (λ (older : List Note). lawful.freed_since older c.args.call c.args.key.now) log i c.note-item.result _ c.loop-note-test.true c.note-item.is (c.freed_since_after-is_freed.ensures before (c.deref.ensures.value ∙ now.live) now.is_freed);
    }
