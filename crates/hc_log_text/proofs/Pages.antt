-- A page is read as it is written, and nothing else is.
use Rattle.std.proofs.Common.{◌≡◌, ℕ, zero, suc, ◌+◌, ◌*◌, ◌/◌, ◌%◌, ◌<◌, ◌==◌, nat_lt, Bool, true, false, not, ◌&&◌, ◌||◌, inl, inr, List, [], ◌∷◌, length, slice_index, Option, Some, None, unwrap_or, Ok, refl, sym, ap, ◌∙◌, arith}
use Rattle.std.proofs.lemmas.Bool.{and_from, and_parts, cases_lt, eqb-true, ltb-true, lt-ltb}
use Rattle.std.proofs.lemmas.Bool.Decides.{nat_tests}
use Rattle.std.proofs.lemmas.Slice.Eq.{bytes_eq-Decides}
use Rattle.std.specs.List.{list_all}
use Rattle.std.specs.Prelude.{codes}
use Rattle.std.specs.Str.{bytes_eq}
use Rattle.hex.specs.Hex.{IsBytes, decode_pairs, digit_or_error, encode_lower, encode_with, hex_digit_value, lower_digits, pair_value, value_at}
use Rattle.hex.proofs.HexLemmas.{decode_of-encode_lower, decode_of-even, length-encode_with}
use Rattle.hex.proofs.Pairs.{cons_byte, decode_pairs-ok_pair}
use Rattle.hex.proofs.Pairs.{cons_byte, decode_pairs-ok_pair}
use Rattle.hc_log_text.specs.Said.{is_bytes}
use Rattle.hc_log_text.specs.Reading.{is_small_digit, is_page, if_decoded, page_bytes}

-- ---- a byte below 256 in each place

bytes-are : (bytes : List ℕ) → is_bytes bytes ≡ true → IsBytes bytes
bytes-are [] h zero = omega arith
bytes-are [] h (suc i) = omega arith
bytes-are (b ∷ bytes) h zero = ltb-true b 256 (and_parts (nat_lt b 256) (is_bytes bytes) h).0
bytes-are (b ∷ bytes) h (suc i) = bytes-are bytes (and_parts (nat_lt b 256) (is_bytes bytes) h).1 i

-- ---- the sixteen digits are small

all_small : ℕ → Bool
all_small zero = true
all_small (suc n) = is_small_digit (slice_index lower_digits n) && all_small n

small-at : (n k : ℕ) → all_small n ≡ true → k < n → is_small_digit (slice_index lower_digits k) ≡ true
unfolding all_small
small-at zero k h lt = absurd (omega (arith, lt))
small-at (suc n) k h lt =
    let parts = and_parts (is_small_digit (slice_index lower_digits n)) (all_small n) h in
    elim (cases_lt k n) [
      | inl below ↦ small-at n k parts.1 below
      | inr top ↦
          let e : k ≡ n = omega (arith, lt, top) in
          rw e parts.0
    ]

sixteen : all_small 16 ≡ true
unfolding all_small
sixteen = refl

all-small : (bytes : List ℕ) → is_bytes bytes ≡ true → list_all is_small_digit (encode_lower bytes) ≡ true
unfolding encode_with
all-small [] h = refl
all-small (b ∷ bytes) h =
    let t = and_parts (nat_lt b 256) (is_bytes bytes) h in
    let small = ltb-true b 256 t.0 in
    let high : b / 16 < 16 = omega (arith, small) in
    let low : b % 16 < 16 = omega arith in
    and_from _ _ (small-at 16 (b / 16) sixteen high) (and_from _ _ (small-at 16 (b % 16) sixteen low) (all-small bytes t.1))

pub page-is : (bytes : List ℕ) → is_bytes bytes ≡ true → is_page (encode_lower bytes) ≡ true
page-is bytes h =
    let l = length-encode_with lower_digits bytes in
    let even : length (encode_lower bytes) % 2 ≡ 0 = omega (arith, l) in
    and_from (length (encode_lower bytes) % 2 == 0) _ (rw even refl) (all-small bytes h)

pub page-back : (bytes : List ℕ) → is_bytes bytes ≡ true → page_bytes (encode_lower bytes) ≡ bytes
page-back bytes h = ap if_decoded (decode_of-encode_lower bytes (bytes-are bytes h))

true-not-false : true ≡ false → ⊥
true-not-false e = cc

by-test : (bytes : List ℕ) (b : Bool) → bytes_eq (encode_lower bytes) (codes "failed") ≡ b → is_page (encode_lower bytes) ≡ true → b ≡ false
by-test bytes false e h = refl
by-test bytes true e h = absurd (true-not-false (sym h ∙ ap is_page ((bytes_eq-Decides (encode_lower bytes) (codes "failed")).0 e)))

-- no page is the word of a failed read
pub no-failure : (bytes : List ℕ) → is_bytes bytes ≡ true → bytes_eq (encode_lower bytes) (codes "failed") ≡ false
no-failure bytes h = by-test bytes _ refl (page-is bytes h)

-- ---- a page that is read is one that could be written

-- a digit of the sixteen: its value, which is shown so
record Digit (c : ℕ) : Type 0 where
  v : ℕ
  low : v < 16
  reads : hex_digit_value c ≡ Some v
  shows : slice_index lower_digits v ≡ c

is_read : ℕ → Bool
is_read c = not (is_small_digit c) || (nat_lt (unwrap_or (hex_digit_value c) 99) 16 && (slice_index lower_digits (unwrap_or (hex_digit_value c) 99) == c))

all_read : ℕ → Bool
all_read zero = true
all_read (suc n) = is_read n && all_read n

read-at : (n k : ℕ) → all_read n ≡ true → k < n → is_read k ≡ true
unfolding all_read
read-at zero k h lt = absurd (omega (arith, lt))
read-at (suc n) k h lt =
    let parts = and_parts (is_read n) (all_read n) h in
    elim (cases_lt k n) [
      | inl below ↦ read-at n k parts.1 below
      | inr top ↦
          let e : k ≡ n = omega (arith, lt, top) in
          rw e parts.0
    ]

each-read : all_read 103 ≡ true
unfolding all_read is_read
each-read = refl

then-true : (b c : Bool) → b ≡ true → (not b || c) ≡ true → c ≡ true
then-true true c e h = h
then-true false c e h = cc

from-unwrap : (o : Option ℕ) (n : ℕ) → n < 16 → unwrap_or o 99 ≡ n → o ≡ Some n
from-unwrap (Some m) n lt e = ap (λ k. Some k) e
from-unwrap None n lt e = absurd (omega (arith, lt, e))

small-below : (c : ℕ) → is_small_digit c ≡ true → c < 103
small-below c h = grind (arith, nat_tests, h)

digit : (c : ℕ) → is_small_digit c ≡ true → Digit c
unfolding is_read
digit c h =
    let t = then-true (is_small_digit c) _ h (read-at 103 c each-read (small-below c h)) in
    let n = unwrap_or (hex_digit_value c) 99 in
    let u = and_parts (nat_lt n 16) (slice_index lower_digits n == c) t in
    let lt = ltb-true n 16 u.0 in
    record { v = n; low = lt; reads = from-unwrap (hex_digit_value c) n lt refl; shows = eqb-true (slice_index lower_digits n) c u.1 }

record Decoded (i : ℕ) (text : List ℕ) : Type 0 where
  bytes : List ℕ
  decodes : decode_pairs i text ≡ Ok bytes
  shows : encode_lower bytes ≡ text
  are : is_bytes bytes ≡ true

decoded : (i : ℕ) (text : List ℕ) → length text % 2 ≡ 0 → list_all is_small_digit text ≡ true → Decoded i text
unfolding decode_pairs encode_with
decoded i [] e h = record { bytes = []; decodes = refl; shows = refl; are = refl }
decoded i (c ∷ []) e h = absurd (omega (arith, e))
decoded i (x ∷ y ∷ rest) e h =
    let t = and_parts (is_small_digit x) (is_small_digit y && list_all is_small_digit rest) h in
    let u = and_parts (is_small_digit y) (list_all is_small_digit rest) t.1 in
    let high = digit x t.0 in
    let low = digit y u.0 in
    let high-small = high.low in
    let low-small = low.low in
    let d = decoded (i + 2) rest (omega (arith, e)) u.1 in
    let byte = high.v * 16 + low.v in
    let ha : value_at x i ≡ Ok high.v = ap (digit_or_error x i) high.reads in
    let hb : value_at y (i + 1) ≡ Ok low.v = ap (digit_or_error y (i + 1)) low.reads in
    let pair : pair_value x y i ≡ Ok byte = rw (ha, hb) refl in
    let over : byte / 16 ≡ high.v = omega (arith, low-small) in
    let rem : byte % 16 ≡ low.v = omega (arith, low-small) in
    record {
      bytes = byte ∷ d.bytes;
      decodes = decode_pairs-ok_pair i x y byte rest pair ∙ ap (cons_byte byte) d.decodes;
      shows = λ j. (ap (slice_index lower_digits) over ∙ high.shows) j ∷ (ap (slice_index lower_digits) rem ∙ low.shows) j ∷ d.shows j;
      are = and_from (nat_lt byte 256) (is_bytes d.bytes) (lt-ltb byte 256 (omega (arith, high-small, low-small))) d.are;
    }

pub page-right : (text : List ℕ) → is_page text ≡ true → (encode_lower (page_bytes text) ≡ text) × (is_bytes (page_bytes text) ≡ true)
page-right text h =
    let t = and_parts (length text % 2 == 0) (list_all is_small_digit text) h in
    let even = eqb-true (length text % 2) 0 t.0 in
    let d = decoded 0 text even t.1 in
    let same : page_bytes text ≡ d.bytes = ap if_decoded (decode_of-even text even ∙ d.decodes) in
    (ap encode_lower same ∙ d.shows, ap is_bytes same ∙ d.are)
