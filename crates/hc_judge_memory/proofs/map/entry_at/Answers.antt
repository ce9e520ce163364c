use Rattle.std.proofs.Common.{List, [], take}
use Rattle.hc_history.specs.Note.{Note}
use Rattle.hc_history.specs.Books as books
use Rattle.hc_history.specs.Books.{is_among}
use Rattle.hc_history.specs.Lawful.{past}
use Rattle.hc_legal.proofs.Past.{book-more}
use Rattle.hc_judge_memory.proofs.map.entry_at.Goals as goal

pub loop-place-preserved : goal.loop-place-preserved
loop-place-preserved g c =
    let log = c.args.notes.now in
    let i = c.loop-place.place in
    let before = past [] (take i log) in
    let now = c.loop-place.invariant in
    record {
      live = book-more books.charges log i c.index-notes-place.result _ c.loop-place-test.true c.index-notes-place.is (c.in_ok-charge_note.ensures before now.live);
      waits = book-more (λ (older : List Note). is_among c.args.key.now (books.waiting older)) log i c.index-notes-place.result _ c.loop-place-test.true c.index-notes-place.is (c.is_waiting_after-waits.ensures before now.waits);
      entry = book-more (λ (older : List Note). books.entry_at c.args.flash.now older c.args.key.now) log i c.index-notes-place.result _ c.loop-place-test.true c.index-notes-place.is c.entry_after-entry.ensures;
    }
