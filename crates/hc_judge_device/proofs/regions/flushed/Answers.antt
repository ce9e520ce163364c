use Rattle.hc_history.specs.Regions as spec
use Rattle.hc_legal.proofs.Past.{book-more, book-whole}
use Rattle.hc_judge_device.proofs.regions.flushed.Goals as goal

pub loop-note-preserved : goal.loop-note-preserved
loop-note-preserved g c = book-more spec.flushed _ _ _ _ c.loop-note-test.true c.note-item.is (c.in_ok-flush_next.ensures _ c.loop-note.invariant)

pub returns : goal.returns
returns g c = book-whole spec.flushed _ _ _ c.loop-note-test.false c.loop-note.invariant
