use Rattle.std.proofs.Common.{◌≡◌, drop}
use Rattle.hc_engines.specs.small.BigHash.{job_at}
use Rattle.hc_bighash.proofs.jobs.job_of.Given as goal

-- the job is among the rest, if there is one
abbrev pub invariant-loop-job : goal.invariant-loop-job
invariant-loop-job g l = job_at l.number (drop l.job-index l.jobs) ≡ job_at l.number l.jobs
