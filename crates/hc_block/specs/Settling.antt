-- What follows a page that was written.
use Rattle.std.specs.Prelude.{◌≡◌, ℕ, ◌<◌, true, false, List, [], ◌∷◌, ◌++◌, Some, is_some, length}
use Rattle.hc_types.specs.declared.config.FlashConfig.{FlashConfig}
use Rattle.hc_engines.specs.Engine.{Over, outcome_of, nothing}
use Rattle.hc_engines.specs.large.Region.{is_clean, region_at}
use Rattle.hc_engines.specs.large.Block.{Block, Moved, finished, with_region, end_job, work_of, Writing}
use Rattle.hc_engines.specs.large.Steps.{write_out}
use Rattle.hc_region.specs.declared.status.Stage.{Stage}
use Rattle.hc_region.specs.declared.status.Stage.TheVariants as stages
use Rattle.hc_region.specs.Stages.{settled}
use Rattle.hc_block.specs.Large.{Kept}

abbrev pub flushed_at : Stage → ℕ → List ℕ → List ℕ
flushed_at stages.More r flushed = flushed
flushed_at stages.Last r flushed = flushed ++ r ∷ []
flushed_at stages.Early r flushed = flushed

-- the region as it is then
abbrev pub settled_in : FlashConfig → ℕ → Stage → Block → Block
settled_in flash r stage s = record (with_region r (settled flash stage (region_at r s.regions)) s) { flushed = flushed_at stage r s.flushed }

abbrev pub settled_by : FlashConfig → ℕ → ℕ → Stage → Block → Moved
settled_by flash number r stages.More s = write_out flash number r (settled flash stages.More (region_at r s.regions)) s
settled_by flash number r stages.Last s = finished (settled_in flash r stages.Last s) (record nothing { answer = Over; flushed = Some r })
settled_by flash number r stages.Early s = finished (settled_in flash r stages.Early s) (outcome_of Over [])

-- the operation with the number writes a page of the region
abbrev pub IsWriting : ℕ → ℕ → Block → Type 0
IsWriting number r s = (bytes : List ℕ) × (work_of number s.jobs ≡ Some (Writing r bytes))

-- the written page of the region can be settled
pub record CanSettle (flash : FlashConfig) (number r : ℕ) (stage : Stage) (s : Block) : Type 0 where
  pub under_way : is_some (work_of number s.jobs) ≡ true
  pub there : r < length s.regions
  pub in_use : is_clean (region_at r s.regions).status ≡ false
  pub kept : Kept flash (settled_by flash number r stage (end_job number s)).state
