-- The bytes of an entry are read again, and a part of a list stays where more comes behind.
use Rattle.std.proofs.Common.{◌≡◌, ℕ, ◌+◌, ◌≤◌, true, List, ◌++◌, length, take, drop, Some, refl, arith}
use Rattle.std.specs.Prelude.{◌==◌, not, nat_le}
use Rattle.std.specs.Int.{w32, w64, to_be_bytes}
use Rattle.std.proofs.lemmas.Grind.{common_steps}
use Rattle.std.proofs.lemmas.List.{length-append, length-drop, take-append-le, drop-append-le, take_at, drop_at, take_all}
use Rattle.std.proofs.lemmas.Nat.{from_be_bytes-to_be_bytes_4, from_be_bytes-to_be_bytes_8}
use Rattle.hc_types.specs.FlashEntry.{FlashEntry}
use Rattle.hc_engines.specs.large.Entries.{IsLarge, entry_bytes, entry_len, made_of, entry_in}

-- ---- an entry

some_key : (n : ℕ) → 1 ≤ n → not (n == 0) ≡ true
some_key n h = grind (arith, common_steps)

le-true : (a b : ℕ) → a ≤ b → nat_le a b ≡ true
le-true a b h = grind (arith, common_steps)

same_len : (n : ℕ) → (n == n) ≡ true
same_len n = grind arith

made_again : (e : FlashEntry) → IsLarge e → made_of (length e.key) e.pool (length e.value) e.expiry (e.key ++ e.value) ≡ Some e
made_again e fits =
    rw (some_key (length e.key) fits.some_key, le-true (length e.value) 1048576 fits.value, length-append e.key e.value, same_len (length e.key + length e.value), take_at e.key e.value (length e.key) refl, drop_at e.key e.value (length e.key) refl) refl

-- a region entry that is spelled is read again
pub entry_again : (e : FlashEntry) → IsLarge e → entry_in (entry_bytes e) ≡ Some e
entry_again e fits =
    let body = e.key ++ e.value in
    let tail = to_be_bytes w64 e.expiry ++ body in
    let long : length (to_be_bytes w32 (length e.value) ++ tail) ≡ 12 + length body = omega (arith, length-append (to_be_bytes w32 (length e.value)) tail, length-append (to_be_bytes w64 e.expiry) body) in
    rw (
      le-true 12 (length (to_be_bytes w32 (length e.value) ++ tail)) (omega arith),
      from_be_bytes-to_be_bytes_4 (length e.value) (omega (arith, fits.value)),
      from_be_bytes-to_be_bytes_8 e.expiry fits.expiry,
    ) (made_again e fits)

-- ---- parts of lists

pub same_part : (off len : ℕ) (xs more : List ℕ) → off + len ≤ length xs → take len (drop off (xs ++ more)) ≡ take len (drop off xs)
same_part off len xs more h = rw (drop-append-le off xs more (omega arith), take-append-le len (drop off xs) more (omega (arith, length-dropped))) refl
  where
    length-dropped : len ≤ length (drop off xs)
    length-dropped = omega (arith, length-drop off xs)

pub new_part : (xs ys : List ℕ) → take (length ys) (drop (length xs) (xs ++ ys)) ≡ ys
new_part xs ys = rw (drop_at xs ys (length xs) refl) (take_all (length ys) ys (omega arith))

-- ---- how long an entry is

pub entry_long : (e : FlashEntry) → length (entry_bytes e) ≡ entry_len (length e.key) (length e.value)
entry_long e =
    let tail = to_be_bytes w64 e.expiry ++ (e.key ++ e.value) in
    omega (arith, length-append (to_be_bytes w32 (length e.value)) tail, length-append (to_be_bytes w64 e.expiry) (e.key ++ e.value), length-append e.key e.value)
