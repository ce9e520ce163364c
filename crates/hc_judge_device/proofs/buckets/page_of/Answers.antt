use Rattle.hc_history.specs.Pages.{bucket_entries}
use Rattle.hc_legal.proofs.Past.{book-more, book-whole}
use Rattle.hc_judge_device.proofs.buckets.page_of.Goals as goal

pub loop-note-preserved : goal.loop-note-preserved
loop-note-preserved g c = λ flash. book-more (λ older. bucket_entries flash older c.args.bucket) _ _ _ _ c.loop-note-test.true c.note-item.is (c.page_next-page.ensures flash _ (c.loop-note.invariant flash))

pub returns : goal.returns
returns g c = λ flash. book-whole (λ older. bucket_entries flash older c.args.bucket) _ _ _ c.loop-note-test.false (c.loop-note.invariant flash)
