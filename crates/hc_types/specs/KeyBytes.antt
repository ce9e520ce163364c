-- Where the bytes of a key stand.
use Rattle.std.specs.Prelude.{ℕ, ◌<◌, List, length}
use Rattle.hc_types.specs.declared.key_bytes.Place.{Place}
use Rattle.hc_types.specs.declared.key_bytes.Place.TheVariants.{Short, Long}

module _ {A : Type 0} where
  -- the bytes, wherever they stand
  abbrev pub bytes_at : Place A → List ℕ
  bytes_at (Short bytes) = bytes
  bytes_at (Long bytes) = bytes

  -- only many are shared
  abbrev pub IsShortInPlace : Place A → Type 0
  IsShortInPlace (Short bytes) = Unit {0}
  IsShortInPlace (Long bytes) = 46 < length bytes
