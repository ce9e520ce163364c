-- That no number is that of two operations, whatever the pages have.
use Rattle.std.specs.Prelude.{◌≡◌, ℕ, List, Some, None, ◌⊎◌}
use Rattle.hc_engines.specs.Engine.{Op, IoResult}
use Rattle.hc_engines.specs.small.BigHash.{Job, job_at, without_job}
use Rattle.hc_engines.specs.large.Block.{work_of}
use Rattle.hc_engines.specs.large.Sound.{Sound}
use Rattle.hc_engines.specs.pair.Pair.{Pair, Moved, start, resume}
use Rattle.hc_engines.specs.pair.Held.{under_way}

-- no two jobs of the small engine have one number
abbrev pub IsSingle : List Job → Type 0
IsSingle jobs = (n : ℕ) → job_at n (without_job n jobs) ≡ None

pub record IsApart (pair : Pair) : Type 0 where
  pub apart : (n : ℕ) → (job_at n pair.small.jobs ≡ None) ⊎ (work_of n pair.large.jobs ≡ None)
  pub single : IsSingle pair.small.jobs

-- each call keeps it so
abbrev pub StartStaysApart : Type 0
StartStaysApart = (pair : Pair) (number : ℕ) (op : Op) → IsApart pair → Sound pair.small.flash pair.large → under_way pair number ≡ None → IsApart (start number op pair).pair

abbrev pub ResumeStaysApart : Type 0
ResumeStaysApart = (pair : Pair) (number : ℕ) (result : IoResult) (moved : Moved) → IsApart pair → Sound pair.small.flash pair.large → resume number result pair ≡ Some moved → IsApart moved.pair
