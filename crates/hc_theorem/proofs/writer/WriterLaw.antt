-- The writer's law: what it asks of the region books and of the take of a page is proved there.
use Rattle.hc_invariant.specs.Laws.{WriterKeeps}
use Rattle.hc_proof.proofs.writes.Putting.{put_tells}
use Rattle.hc_proof.proofs.jobs.RegionLaws.{writer_flush_keeps_more}
use Rattle.hc_theorem.proofs.writer.Writer as by
use Rattle.hc_invariant.specs.Good.{Orderly}

pub writer_keeps : WriterKeeps Orderly Orderly
writer_keeps = by.writer_keeps writer_flush_keeps_more put_tells
