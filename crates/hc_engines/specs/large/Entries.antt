-- The bytes of an entry of a region. Numbers are big-endian.
use Rattle.std.specs.Prelude.{ℕ, ◌+◌, ◌<◌, ◌≤◌, ◌^◌, ◌==◌, nat_le, ◌&&◌, not, List, [], ◌∷◌, ◌++◌, length, take, drop, Option, Some, None, if◌then◌else◌}
use Rattle.std.specs.Int.{w32, w64, to_be_bytes, from_be_bytes}
use Rattle.hc_types.specs.FlashEntry.{FlashEntry}

-- what an entry may be
pub record IsLarge (e : FlashEntry) : Type 0 where
  pub some_key : 1 ≤ length e.key
  pub key : length e.key ≤ 255
  pub value : length e.value ≤ 1048576
  pub pool : e.pool < 2 ^ 8
  pub expiry : e.expiry < 2 ^ 64

-- key length, pool, value length, expiry, key, value
abbrev pub entry_bytes : FlashEntry → List ℕ
entry_bytes e = length e.key ∷ e.pool ∷ (to_be_bytes w32 (length e.value) ++ (to_be_bytes w64 e.expiry ++ (e.key ++ e.value)))

-- how many bytes an entry takes, of a key and a value of these lengths
abbrev pub entry_len : ℕ → ℕ → ℕ
entry_len key value = 14 + key + value

-- the entry that these bytes are, from the key's length, the pool, the value's length, the expiry and what is behind them
abbrev pub made_of : ℕ → ℕ → ℕ → ℕ → List ℕ → Option FlashEntry
made_of key pool value expiry body =
    if not (key == 0) && nat_le value 1048576 && (length body == key + value)
    then Some (record { key = take key body; value = drop key body; pool = pool; expiry = expiry })
    else None

abbrev pub entry_behind : ℕ → ℕ → List ℕ → Option FlashEntry
entry_behind key pool rest =
    if nat_le 12 (length rest)
    then made_of key pool (from_be_bytes w32 (take 4 rest)) (from_be_bytes w64 (take 8 (drop 4 rest))) (drop 12 rest)
    else None

-- the entry that these bytes are, all of them, or nothing where they are none
abbrev pub entry_in : List ℕ → Option FlashEntry
entry_in [] = None
entry_in (key ∷ []) = None
entry_in (key ∷ pool ∷ rest) = entry_behind key pool rest
