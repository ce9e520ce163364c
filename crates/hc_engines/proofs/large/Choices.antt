-- A flush and a reclaim do what they choose.
use Rattle.std.proofs.Common.{◌≡◌, ℕ, Bool, true, false, Option, Some, None, refl}
use Rattle.std.specs.Prelude.{if◌then◌else◌, nat_lt}
use Rattle.hc_engines.specs.large.Region.{can_go, region_at}
use Rattle.hc_engines.specs.large.Block.{unmoved}
use Rattle.hc_engines.specs.large.Steps.{clean_count, oldest, reclaim_of, write_out, first_ready, early_of, flush_of}
use Rattle.hc_engines.specs.large.Choices.{Early, early_next, next_from, flushed_by, FlushIsItsChoice, ReclaimIsItsChoice}

pub flush_by_choice : FlushIsItsChoice
flush_by_choice flash number s = go (first_ready s.regions s.sealed)
  where
    early_one : (r : ℕ) (t : Bool) → (if t then write_out flash number r (record (region_at r s.regions) { early = true }) s else unmoved s) ≡ flushed_by flash number s (if t then Some (r, Early) else None)
    early_one r true = refl
    early_one r false = refl

    early : (o : Option ℕ) → early_of flash number s o ≡ flushed_by flash number s (early_next flash s o)
    early None = refl
    early (Some r) = early_one r (can_go flash (region_at r s.regions))

    go : (o : Option ℕ) → flush_of flash number s o ≡ flushed_by flash number s (next_from flash s o)
    go None = early s.current
    go (Some r) = refl

pub reclaim_by_choice : ReclaimIsItsChoice
reclaim_by_choice flash s = go (nat_lt (clean_count s.regions) flash.clean)
  where
    go : (t : Bool) → (if t then reclaim_of s (oldest s.regions s.flushed) else unmoved s) ≡ reclaim_of s (if t then oldest s.regions s.flushed else None)
    go true = refl
    go false = refl
