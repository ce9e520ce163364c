-- What a bucket page is: a list of entries, and the one spelling that it has on a page of each size. Numbers are
-- big-endian.
use Rattle.std.specs.Prelude.{◌≡◌, ℕ, ◌+◌, ◌-◌, ◌<◌, ◌≤◌, ◌^◌, Bool, true, ◌&&◌, not, nat_eq, List, [], ◌∷◌, ◌++◌, length, replicate}
use Rattle.std.specs.List.{flat_map, AllByRecursion, list_any}
use Rattle.std.specs.Int.{w16, w64, to_be_bytes}
use Rattle.std.specs.Cmp.Lexicographic.{pointwise}
use Rattle.hc_types.specs.FlashEntry.{FlashEntry}

-- what stands before an entry's key: key length, pool, value length, expiry
abbrev pub head_bytes : FlashEntry → List ℕ
head_bytes e = length e.key ∷ e.pool ∷ (to_be_bytes w16 (length e.value) ++ to_be_bytes w64 e.expiry)

-- the bytes of an entry: key length, pool, value length, expiry, key, value
abbrev pub entry_bytes : FlashEntry → List ℕ
entry_bytes e = length e.key ∷ e.pool ∷ (to_be_bytes w16 (length e.value) ++ (to_be_bytes w64 e.expiry ++ (e.key ++ e.value)))

-- the bytes of the entries, one after the other, the oldest first
abbrev pub entries_bytes : List FlashEntry → List ℕ
entries_bytes es = flat_map entry_bytes es

-- how many bytes of a page they use, the two numbers at its front included
abbrev pub used : List FlashEntry → ℕ
used es = 4 + length (entries_bytes es)

-- the bytes of a page: how many entries, how many bytes are used, the entries, and zeros to the end
abbrev pub page_bytes : ℕ → List FlashEntry → List ℕ
page_bytes size es = to_be_bytes w16 (length es) ++ (to_be_bytes w16 (used es) ++ (entries_bytes es ++ replicate (size - used es) 0))

-- no key stands twice
abbrev pub distinct : List FlashEntry → Bool
distinct [] = true
distinct (e ∷ es) = not (list_any (λ other. pointwise nat_eq other.key e.key) es) && distinct es

-- what an entry of a page may be
pub record IsSmall (e : FlashEntry) : Type 0 where
  pub some_key : 1 ≤ length e.key
  pub key : length e.key ≤ 255
  pub value : length e.value < 2 ^ 16
  pub pool : e.pool < 2 ^ 8
  pub expiry : e.expiry < 2 ^ 64

-- the entries that a page of this size can hold
pub record Fits (size : ℕ) (es : List FlashEntry) : Type 0 where
  pub each : AllByRecursion IsSmall es
  pub distinct_keys : distinct es ≡ true
  pub number : used es < 2 ^ 16
  pub room : used es ≤ size

-- a page is begun: its front isn't written yet, and these entries stand behind it
abbrev pub IsBegun : List FlashEntry → List ℕ → Type 0
IsBegun es bytes = bytes ≡ replicate 4 0 ++ entries_bytes es

-- these bytes are a page of this size that holds these entries
abbrev pub IsPage : ℕ → List FlashEntry → List ℕ → Type 0
IsPage size es bytes = Fits size es × (bytes ≡ page_bytes size es)

-- two lists of entries never share the bytes of a page
abbrev pub HoldsOneList : Type 0
HoldsOneList = (size : ℕ) (xs ys : List FlashEntry) (bytes : List ℕ) → IsPage size xs bytes → IsPage size ys bytes → xs ≡ ys
