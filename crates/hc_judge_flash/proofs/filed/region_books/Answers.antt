use Rattle.std.proofs.Common.{List, subst, sym}
use Rattle.hc_history.specs.Note.{Note}
use Rattle.hc_judge_flash.specs.Filed.{AreBooks}
use Rattle.hc_legal.proofs.Past.{past-more}
use Rattle.hc_judge_flash.proofs.filed.region_books.Goals as goal

pub loop-place-preserved : goal.loop-place-preserved
loop-place-preserved g c =
    let books = c.file_note.new.books in
    let more = past-more c.args.notes.now c.loop-place.place c.index-notes-place.result c.loop-place-test.true c.index-notes-place.is in
    subst (λ (older : List Note). AreBooks c.args.flash.now older books.filled books.filings.items) (sym more) (c.in_ok-file_note.ensures c.loop-place.invariant)
