-- What is appended to a region, and leaves it again where the rest of the step was refused.
use Rattle.std.specs.Prelude.{ℕ, ◌-◌, ◌++◌, take, List, [], ◌∷◌, length}
use Rattle.hc_types.specs.declared.config.FlashConfig.{FlashConfig}
use Rattle.hc_engines.specs.large.Region.{Region, filled_to}

-- the bytes go behind what the region has, under this hash
abbrev pub grown : FlashConfig → ℕ → List ℕ → Region → Region
grown flash hash bytes region = record region { buffer = region.buffer ++ bytes; appended = region.appended ++ record { hash = hash; offset = filled_to flash region } ∷ [] }

-- what was appended last, so many bytes, leaves again
abbrev pub undone : ℕ → Region → Region
undone len region = record region { buffer = take (length region.buffer - len) region.buffer; appended = take (length region.appended - 1) region.appended }
