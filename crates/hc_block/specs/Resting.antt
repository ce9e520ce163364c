-- An engine at rest: no operation is under way. What of it is kept where the cache is closed, and when such parts are an engine.
use Rattle.std.specs.Prelude.{◌≡◌, ℕ, ◌+◌, ◌==◌, nat_lt, nat_le, nat_eq, Bool, true, false, not, ◌&&◌, ◌⊎◌, List, [], ◌∷◌, length, replicate, get_or, set, Option, Some, None, if◌then◌else◌}
use Rattle.std.specs.List.{list_all, IsDistinct}
use Rattle.hc_types.specs.declared.config.FlashConfig.{FlashConfig}
use Rattle.hc_engines.specs.large.Region.{Status, Clean, Open, Sealed, OnFlash, Region, region_at, filled_to}
use Rattle.hc_engines.specs.large.Index.{Place, Indexed, place_at}
use Rattle.hc_engines.specs.large.Block.{Block}
use Rattle.hc_engines.specs.large.Numbers.{is_in}
use Rattle.hc_engines.specs.large.Sound.{is_listed}
use Rattle.hc_region.specs.declared.resting.AtRest.{AtRest}
use Rattle.hc_region.specs.declared.resting.AtRest.TheVariants as rests
use Rattle.hc_region.specs.Resting.{can_rest}
use Rattle.hc_block.specs.declared.reason.Reason.{Reason}
use Rattle.hc_block.specs.declared.reason.Reason.TheVariants as reasons

-- no operation is under way
abbrev pub block_at : List Region → Option ℕ → List ℕ → List ℕ → List Indexed → Block
block_at regions current sealed flushed index = record { regions = regions; current = current; sealed = sealed; flushed = flushed; index = index; jobs = [] }

-- ---- the tests of the parts

abbrev pub stands_at : AtRest → Status → Bool
stands_at rests.Clean Clean = true
stands_at rests.Open Open = true
stands_at rests.Sealed Sealed = true
stands_at rests.OnFlash OnFlash = true
stands_at rest status = false

-- the number is of a region that stands so
abbrev pub is_of : AtRest → List Region → ℕ → Bool
is_of rest regions r = nat_lt r (length regions) && stands_at rest (region_at r regions).status

-- the open region, where there is one, is open
abbrev pub is_open : List Region → Option ℕ → Bool
is_open regions None = true
is_open regions (Some r) = is_of rests.Open regions r

-- the number is of a region that stands so, and isn't marked
abbrev pub can_come : AtRest → List Region → List Bool → ℕ → Bool
can_come rest regions seen r = is_of rest regions r && not (get_or seen r false)

-- each can come, and is marked then
abbrev pub once_from : AtRest → List Region → List Bool → List ℕ → Bool
once_from rest regions seen [] = true
once_from rest regions seen (r ∷ rs) = can_come rest regions seen r && once_from rest regions (set seen r true) rs

-- each is the number of a region that stands so, and none is there twice
abbrev pub all_once : AtRest → List Region → List ℕ → Bool
all_once rest regions numbers = once_from rest regions (replicate (length regions) false) numbers

-- a place of a large entry: appended there, longer than a small one's, within what its region is filled to
abbrev pub leads_well : FlashConfig → List Region → Indexed → Bool
leads_well flash regions x =
    is_listed x.hash x.place.offset (region_at x.place.region regions).appended
    && (nat_lt (14 + flash.small_max) x.place.length && nat_le (x.place.offset + x.place.length) (filled_to flash (region_at x.place.region regions)))

-- the first test that the parts of this state don't pass, or none where they are those of an engine at rest
abbrev pub misfit : FlashConfig → Block → Option Reason
misfit flash s =
    if length s.regions == flash.regions then
    (if list_all (can_rest flash) s.regions then
    (if is_open s.regions s.current then
    (if all_once rests.Sealed s.regions s.sealed then
    (if all_once rests.OnFlash s.regions s.flushed then
    (if list_all (leads_well flash s.regions) s.index then None
    else Some reasons.Index)
    else Some reasons.Flushed)
    else Some reasons.Sealed)
    else Some reasons.Current)
    else Some reasons.Region)
    else Some reasons.Count

-- why the parts of this state are refused: want of memory, or the first test that they don't pass
abbrev pub IsWhy : FlashConfig → Block → Reason → Type 0
IsWhy flash s why = (why ≡ reasons.NoMemory) ⊎ (misfit flash s ≡ Some why)

-- ---- what the tests say

-- each is the number of a region that stands so, and none is there twice
pub record AllOnce (status : Status) (regions : List Region) (numbers : List ℕ) : Type 0 where
  pub once : IsDistinct nat_eq numbers
  pub stand : (r : ℕ) → is_in r numbers ≡ true → (region_at r regions).status ≡ status

-- where the index leads, it leads to a large entry alone: what every engine's does that was given no small ones
pub record LeadsWell (flash : FlashConfig) (s : Block) : Type 0 where
  pub places : (hash : ℕ) (place : Place) → place_at hash s.index ≡ Some place → leads_well flash s.regions (record { hash = hash; place = place }) ≡ true
