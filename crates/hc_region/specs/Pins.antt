-- A region that is let go by a read.
use Rattle.std.specs.Prelude.{ℕ, ◌-◌, ◌==◌, ◌&&◌, Bool, Option, Some, None, if◌then◌else◌}
use Rattle.hc_engines.specs.large.Region.{Region, clean_region, is_draining}

-- it drains, and this read is the last
abbrev pub is_last : Region → Bool
is_last region = is_draining region.status && (region.pins == 1)

abbrev pub released : Region → Region
released region = if is_last region then clean_region else record region { pins = region.pins - 1 }

abbrev pub released_by : Region → ℕ → Option ℕ
released_by region r = if is_last region then Some r else None
