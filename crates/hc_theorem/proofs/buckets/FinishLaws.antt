-- The law of a result of a bucket's job, and with it that of any job's.
use Rattle.hc_invariant.specs.Laws.{FinishKeeps}
use Rattle.hc_proof.proofs.reads.Getting.{get_tells, get_gives}
use Rattle.hc_proof.proofs.jobs.FinishCases.{finish_keeps}
use Rattle.hc_proof.proofs.jobs.RegionLaws.{finish_flush_keeps}
use Rattle.hc_theorem.proofs.fills.FillLaws.{fills, read_finish}
use Rattle.hc_theorem.specs.buckets.SmallJobs.{FinishSmallKeeps}
use Rattle.hc_theorem.proofs.buckets.Finished.{finish_small}
use Rattle.hc_invariant.specs.Good.{Agrees}

-- a job of the small engine
pub finishes_small : FinishSmallKeeps
finishes_small = finish_small fills get_tells get_gives

-- any job
pub finishes : FinishKeeps Agrees Agrees
finishes = finish_keeps finishes_small read_finish finish_flush_keeps
