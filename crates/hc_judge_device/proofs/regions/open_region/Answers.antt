use Rattle.hc_history.specs.Regions as spec
use Rattle.hc_legal.proofs.Past.{book-more, book-whole}
use Rattle.hc_judge_device.proofs.regions.open_region.Goals as goal

pub loop-note-preserved : goal.loop-note-preserved
loop-note-preserved g c = book-more (spec.open_region c.args.flash.now) _ _ _ _ c.loop-note-test.true c.note-item.is (c.open_next-region.ensures _ c.loop-note.invariant)

pub returns : goal.returns
returns g c = book-whole (spec.open_region c.args.flash.now) _ _ _ c.loop-note-test.false c.loop-note.invariant
