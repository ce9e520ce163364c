-- What a flush and a reclaim choose, as values.
use Rattle.std.specs.Prelude.{◌≡◌, ℕ, nat_lt, Bool, true, List, Option, Some, None, if◌then◌else◌}
use Rattle.hc_types.specs.declared.config.FlashConfig.{FlashConfig}
use Rattle.hc_engines.specs.large.Region.{Status, Flushing, Region, can_go, region_at}
use Rattle.hc_engines.specs.large.Block.{Block, Moved, unmoved}
use Rattle.hc_engines.specs.large.Steps.{clean_count, oldest, reclaim_of, reclaim, write_out, first_ready, flush}
use Rattle.hc_engines.specs.large.Numbers.{minus}

-- ---- flush

-- why a region's next page goes out
pub data Mark : Type 0 where
  -- it is full, while its region is in use
  Early : Mark
  -- the flush of its sealed region begins
  Flush : Mark

-- how the region is marked then
abbrev pub status_under : Mark → Status → Status
status_under Early status = status
status_under Flush status = Flushing

abbrev pub early_under : Mark → Bool → Bool
early_under Early early = true
early_under Flush early = early

abbrev pub marked : Mark → Region → Region
marked mark region = record region { status = status_under mark region.status; early = early_under mark region.early }

abbrev pub left_sealed : Mark → ℕ → List ℕ → List ℕ
left_sealed Early r sealed = sealed
left_sealed Flush r sealed = minus r sealed

-- which region's page goes out next, and why: of the region sealed first of which no page is out, or else of the one in use
abbrev pub early_next : FlashConfig → Block → Option ℕ → Option (ℕ × Mark)
early_next flash s None = None
early_next flash s (Some r) = if can_go flash (region_at r s.regions) then Some (r, Early) else None

abbrev pub next_from : FlashConfig → Block → Option ℕ → Option (ℕ × Mark)
next_from flash s None = early_next flash s s.current
next_from flash s (Some r) = Some (r, Flush)

abbrev pub flush_next : FlashConfig → Block → Option (ℕ × Mark)
flush_next flash s = next_from flash s (first_ready s.regions s.sealed)

-- and what that does
abbrev pub gone_out : FlashConfig → ℕ → ℕ → Mark → Block → Moved
gone_out flash number r mark s = write_out flash number r (marked mark (region_at r s.regions)) (record s { sealed = left_sealed mark r s.sealed })

abbrev pub flushed_by : FlashConfig → ℕ → Block → Option (ℕ × Mark) → Moved
flushed_by flash number s None = unmoved s
flushed_by flash number s (Some turn) = gone_out flash number turn.0 turn.1 s

abbrev pub FlushIsItsChoice : Type 0
FlushIsItsChoice = (flash : FlashConfig) (number : ℕ) (s : Block) → flush flash number s ≡ flushed_by flash number s (flush_next flash s)

-- ---- reclaim

-- the region that is reclaimed next, where too few are clean
abbrev pub reclaim_next : FlashConfig → Block → Option ℕ
reclaim_next flash s = if nat_lt (clean_count s.regions) flash.clean then oldest s.regions s.flushed else None

abbrev pub ReclaimIsItsChoice : Type 0
ReclaimIsItsChoice = (flash : FlashConfig) (s : Block) → reclaim flash s ≡ reclaim_of s (reclaim_next flash s)
