-- Which region's page goes out next, as the code says it, and that it can.
use Rattle.std.specs.Prelude.{◌≡◌, ℕ, ◌<◌, false, Option, option_map, length}
use Rattle.hc_types.specs.declared.config.FlashConfig.{FlashConfig}
use Rattle.hc_engines.specs.large.Region.{is_clean, region_at}
use Rattle.hc_engines.specs.large.Block.{Block}
use Rattle.hc_engines.specs.large.Laws.{IsFree}
use Rattle.hc_engines.specs.large.Choices as choices
use Rattle.hc_region.specs.declared.status.Mark.{Mark}
use Rattle.hc_region.specs.Stages.{mark_seen}
use Rattle.hc_block.specs.Large.{Kept}

-- which region's page goes out, and why
abbrev pub turn_seen : ℕ × Mark → ℕ × choices.Mark
turn_seen turn = (turn.0, mark_seen turn.1)

abbrev pub choice_seen : Option (ℕ × Mark) → Option (ℕ × choices.Mark)
choice_seen turn = option_map turn_seen turn

-- the region's page can go out like that
pub record CanGoOut (flash : FlashConfig) (number r : ℕ) (mark : choices.Mark) (s : Block) : Type 0 where
  pub free : IsFree number s
  pub there : r < length s.regions
  pub in_use : is_clean (region_at r s.regions).status ≡ false
  pub kept : Kept flash (choices.gone_out flash number r mark s).state
