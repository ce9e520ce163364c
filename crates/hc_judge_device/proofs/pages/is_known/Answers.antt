use Rattle.std.specs.Prelude.{is_some}
use Rattle.hc_history.specs.Pages.{bytes_at}
use Rattle.hc_legal.proofs.Past.{book-more, book-whole}
use Rattle.hc_judge_device.proofs.pages.is_known.Goals as goal

pub loop-note-preserved : goal.loop-note-preserved
loop-note-preserved g c = book-more (λ older. is_some (bytes_at older c.args.page)) _ _ _ _ c.loop-note-test.true c.note-item.is (c.known_next-known.ensures _ c.loop-note.invariant)

pub returns : goal.returns
returns g c = book-whole (λ older. is_some (bytes_at older c.args.page)) _ _ _ c.loop-note-test.false c.loop-note.invariant
