-- What an item costs its pool.
use Rattle.std.specs.Prelude.{ℕ, ◌+◌, List, length}

-- the charge, in bytes, of an item with this key and a value of this length
abbrev pub charge_of : List ℕ → ℕ → ℕ
charge_of key len = 32 + length key + len
