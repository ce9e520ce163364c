-- The laws of the steps of regions: what they ask of the region books is proved there.
use Rattle.hc_proof.proofs.writes.Flushing.{flush_tells, flush_gives}
use Rattle.hc_proof.proofs.writes.Written.{written_tells, written_gives}
use Rattle.hc_proof.proofs.writes.Failing.{failed_write_tells, failed_write_gives}
use Rattle.hc_proof.proofs.writes.Reclaiming.{reclaim_tells, reclaim_gives}
use Rattle.hc_proof.specs.jobs.RegionSteps.{FinishFlushKeeps, WriterFlushKeepsMore}
use Rattle.hc_proof.proofs.jobs.Steps as steps
use Rattle.hc_invariant.specs.Good.{Agrees, Good}
use Rattle.hc_invariant.specs.Laws.{ReclaimKeeps}

pub reclaim_keeps : ReclaimKeeps Good Agrees
reclaim_keeps = steps.reclaim_keeps reclaim_tells reclaim_gives

pub finish_flush_keeps : FinishFlushKeeps
finish_flush_keeps = steps.finish_flush_keeps written_tells written_gives failed_write_tells failed_write_gives

pub writer_flush_keeps_more : WriterFlushKeepsMore
writer_flush_keeps_more = steps.writer_flush_keeps_more flush_tells flush_gives
