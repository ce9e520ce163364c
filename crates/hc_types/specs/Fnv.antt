-- FNV-1a in 64 bits (Fowler, Noll and Vo).
use Rattle.std.specs.Prelude.{ℕ, ◌*◌, ◌%◌, ◌^◌, List, bit_xor, fold}

-- one byte more
abbrev pub fnv_step : ℕ → ℕ → ℕ
fnv_step hash byte = (bit_xor hash byte * 1099511628211) % (2 ^ 64)

-- the hash of these bytes
abbrev pub fnv_1a : List ℕ → ℕ
fnv_1a bytes = fold fnv_step 14695981039346656037 bytes
