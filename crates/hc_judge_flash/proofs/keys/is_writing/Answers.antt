use Rattle.hc_history.specs.Books.{is_among, writing}
use Rattle.hc_legal.proofs.Past.{book-more, book-whole}
use Rattle.hc_judge_flash.proofs.keys.is_writing.Goals as goal

pub loop-note-preserved : goal.loop-note-preserved
loop-note-preserved g c = book-more (λ older. is_among c.args.key.now (writing older)) _ _ _ _ c.loop-note-test.true c.note-item.is (c.writing_next-is_writing.ensures _ c.loop-note.invariant)

pub returns : goal.returns
returns g c = book-whole (λ older. is_among c.args.key.now (writing older)) _ _ _ c.loop-note-test.false c.loop-note.invariant
