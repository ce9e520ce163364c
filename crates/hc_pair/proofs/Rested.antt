-- An idle small engine shares no number with the large one.
use Rattle.std.proofs.Common.{◌≡◌, List, [], inl, ap}
use Rattle.hc_engines.specs.small.BigHash.{BigHash, Job, job_at, without_job}
use Rattle.hc_block.specs.Large.{Large}
use Rattle.hc_pair.specs.Joined.{IsJoined}

pub joined_idle : (small : BigHash) (large : Large) → large.flash ≡ small.flash → small.jobs ≡ [] → IsJoined small large
joined_idle small large flash idle = record {
  flash = flash;
  apart = record {
    apart = λ n. inl (ap (job_at n) idle);
    single = λ n. ap (λ (jobs : List Job). job_at n (without_job n jobs)) idle;
  };
}
