-- Why a region ends, and what that leaves.
use Rattle.std.specs.Prelude.{◌≡◌, ℕ, ◌<◌, false, List, length, Option, Some, None}
use Rattle.hc_types.specs.declared.config.FlashConfig.{FlashConfig}
use Rattle.hc_types.specs.Loss.{Cause, Reclaimed, Fault}
use Rattle.hc_engines.specs.large.Region.{is_clean, region_at}
use Rattle.hc_engines.specs.large.Block.{Block, Job, without_job}
use Rattle.hc_engines.specs.large.Numbers.{minus}
use Rattle.hc_engines.specs.large.Steps.{end_region}
use Rattle.hc_block.specs.Large.{Kept}
use Rattle.hc_block.specs.declared.ends.End.{End}
use Rattle.hc_block.specs.declared.ends.End.TheVariants as ends

abbrev pub cause_seen : End → Cause
cause_seen (ends.Reclaimed r) = Reclaimed r
cause_seen ends.Fault = Fault

-- the regions flushed, where one was cleared
abbrev pub flushed_left : Option ℕ → ℕ → List ℕ → List ℕ
flushed_left None r flushed = flushed
flushed_left (Some q) r flushed = minus r flushed

-- the operations under way, where this one is over
abbrev pub jobs_left : Option ℕ → List Job → List Job
jobs_left None jobs = jobs
jobs_left (Some number) jobs = without_job number jobs

abbrev pub left_by : Option ℕ → Block → Block
left_by job s = record s { jobs = jobs_left job s.jobs }

-- the region can end, for this cause
pub record CanEnd (flash : FlashConfig) (cause : Cause) (r : ℕ) (s : Block) : Type 0 where
  pub there : r < length s.regions
  pub in_use : is_clean (region_at r s.regions).status ≡ false
  pub kept : Kept flash (end_region cause r s).state
