-- The fills' laws, from what they lean on in the crates below.
use Rattle.hc_proof.proofs.reads.PageReads.{read_tells, read_gives, failed_read_tells, failed_read_gives}
use Rattle.hc_proof.specs.jobs.FinishCases.{ReadFinish}
use Rattle.hc_proof.proofs.jobs.FinishCases.{plainly}
use Rattle.hc_proof.proofs.calls.Serving.{there_by_map}
use Rattle.hc_proof.proofs.storing.StoringLaws.{serves}
use Rattle.hc_theorem.specs.fills.Filling.{FillEnds}
use Rattle.hc_theorem.specs.fills.Finishing.{FinishReadKeeps}
use Rattle.hc_theorem.proofs.fills.FillEnds.{fill_ends}
use Rattle.hc_theorem.proofs.fills.ReadFinishes.{finish_read_keeps}
use Rattle.hc_invariant.specs.Good.{Good, Agrees}
use Rattle.hc_invariant.specs.Laws.{FillerKeeps}
use Rattle.hc_proof.proofs.reads.Getting.{get_tells, get_gives}
use Rattle.hc_theorem.proofs.fills.Filler as by

-- and then the calls that waited are served
pub fills : FillEnds
fills = fill_ends serves there_by_map

-- a result of a get that reads a page of a region
pub reads : FinishReadKeeps
reads = finish_read_keeps read_tells read_gives failed_read_tells failed_read_gives fills

pub read_finish : ReadFinish plainly
read_finish config older cache number result nvm job reading n at get small work g honest = reads config older cache number result nvm job n at get small g honest

-- the filler takes a fill
pub filler_keeps : FillerKeeps Good Agrees
filler_keeps = by.filler_keeps get_tells get_gives fills
