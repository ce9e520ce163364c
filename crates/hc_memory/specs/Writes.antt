-- What is written into an item.
use Rattle.std.specs.Prelude.{◌≡◌, ℕ, ◌+◌, ◌-◌, List, ◌++◌, take, drop, length, ◌&&◌, nat_lt, not, if◌then◌else◌, slice_index}

-- the value after these bytes were written over it at an offset
abbrev pub written : List ℕ → ℕ → List ℕ → List ℕ
written value at bytes = take at value ++ bytes ++ drop (at + length bytes) value

-- each offset has the byte that was written over it, or the one before
abbrev pub EachByte : List ℕ → ℕ → List ℕ → List ℕ → Type 0
EachByte old at bytes new = (k : ℕ) → slice_index new k ≡ (if not (nat_lt k at) && nat_lt k (at + length bytes) then slice_index bytes (k - at) else slice_index old k)
