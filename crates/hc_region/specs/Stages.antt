-- Why a region's page goes out, and what follows when it was written.
use Rattle.std.specs.Prelude.{◌+◌, nat_lt, Bool, false, if◌then◌else◌}
use Rattle.hc_types.specs.declared.config.FlashConfig.{FlashConfig}
use Rattle.hc_region.specs.declared.status.Mark.{Mark}
use Rattle.hc_region.specs.declared.status.Mark.TheVariants as marks
use Rattle.hc_region.specs.declared.status.Stage.{Stage}
use Rattle.hc_region.specs.declared.status.Stage.TheVariants as stages
use Rattle.hc_engines.specs.large.Region.{Status, OnFlash, Region, page_done}
use Rattle.hc_engines.specs.large.Sound.{is_flushing}
use Rattle.hc_engines.specs.large.Choices as choices

-- why a page goes out, as the machine says it
abbrev pub mark_seen : Mark → choices.Mark
mark_seen marks.Early = choices.Early
mark_seen marks.Flush = choices.Flush

-- a flush goes on with the next page, or that was its last; an early write ends
abbrev pub stage_of : FlashConfig → Region → Stage
stage_of flash region = if is_flushing region.status then (if nat_lt (region.written + 1) flash.region_pages then stages.More else stages.Last) else stages.Early

abbrev pub status_at : Stage → Status → Status
status_at stages.More status = status
status_at stages.Last status = OnFlash
status_at stages.Early status = status

abbrev pub early_at : Stage → Bool → Bool
early_at stages.More early = early
early_at stages.Last early = early
early_at stages.Early early = false

abbrev pub settled : FlashConfig → Stage → Region → Region
settled flash stage region = record (page_done flash region) { status = status_at stage region.status; early = early_at stage region.early }
