-- A region at rest: no page of it is out, and no read holds it.
use Rattle.std.specs.Prelude.{ℕ, ◌+◌, ◌==◌, nat_lt, nat_le, Bool, true, false, not, ◌&&◌, List, [], ◌∷◌, length, Option, Some, None}
use Rattle.hc_types.specs.declared.config.FlashConfig.{FlashConfig}
use Rattle.hc_engines.specs.large.Region.{Status, Clean, Open, Sealed, Flushing, OnFlash, Draining, Appended, Region, region_len, filled_to}
use Rattle.hc_region.specs.declared.resting.AtRest.{AtRest}
use Rattle.hc_region.specs.declared.resting.AtRest.TheVariants as rests

abbrev pub status_at : AtRest → Status
status_at rests.Clean = Clean
status_at rests.Open = Open
status_at rests.Sealed = Sealed
status_at rests.OnFlash = OnFlash

-- where a region at rest stands; none where a page of it is out, or only reads hold it
abbrev pub rest_of : Status → Option AtRest
rest_of Clean = Some rests.Clean
rest_of Open = Some rests.Open
rest_of Sealed = Some rests.Sealed
rest_of Flushing = None
rest_of OnFlash = Some rests.OnFlash
rest_of Draining = None

-- a region of these parts
abbrev pub resting : AtRest → ℕ → List ℕ → List Appended → Region
resting rest written buffer appended = record { status = status_at rest; written = written; buffer = buffer; appended = appended; early = false; pins = 0 }

-- the offsets rise from here, and end before there
abbrev pub is_rising : ℕ → List Appended → ℕ → Bool
is_rising from [] to = nat_le from to
is_rising from (x ∷ xs) to = nat_le from x.offset && is_rising (x.offset + 1) xs to

abbrev pub is_blank : Region → Bool
is_blank region = (region.written == 0) && ((length region.buffer == 0) && (length region.appended == 0))

-- the region can stand so: a clean one has nothing, one that is being filled has a page left to write, and none is written or read
abbrev pub can_stand : FlashConfig → Status → Region → Bool
can_stand flash Clean region = is_blank region
can_stand flash Open region = nat_lt region.written flash.region_pages
can_stand flash Sealed region = nat_lt region.written flash.region_pages
can_stand flash OnFlash region = true
can_stand flash Flushing region = false
can_stand flash Draining region = false

abbrev pub can_rest : FlashConfig → Region → Bool
can_rest flash region =
    can_stand flash region.status region && (not region.early && ((region.pins == 0) && (nat_le region.written flash.region_pages
    && (nat_le (filled_to flash region) (region_len flash) && is_rising 0 region.appended (filled_to flash region)))))
