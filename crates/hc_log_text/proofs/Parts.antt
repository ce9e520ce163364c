-- Numbers, keys and values are read as they are written.
use Rattle.std.proofs.Common.{◌≡◌, ℕ, ◌^◌, ◌<◌, ◌≤◌, nat_le, nat_lt, Bool, true, false, List, length, Option, Some, None, refl, sym, ap, ◌∙◌, arith, if◌then◌else◌}
use Rattle.std.proofs.lemmas.Bool.{and_from, and_parts, ltb-true, leb-true}
use Rattle.std.proofs.lemmas.Fmt.{decimal_injective}
use Rattle.std.specs.Fmt.{decimal}
use Rattle.std.specs.List.{list_all}
use Rattle.hc_trace_text.specs.Numbers.{number_of, number_below, below, IsNumberOf, is_visible, is_key}
use Rattle.hc_trace_text.specs.Texts.{is_repeated, value_text}
use Rattle.hc_trace_text.proofs.Decimals.{is-number}
use Rattle.hc_trace_text.proofs.Values.{reads-back}
use Rattle.hc_log_text.specs.Said.{is_shown, is_short}
use Rattle.hc_log_text.specs.Reading.{is_short_key, is_starred, is_proper, proper_value, ◌>>=◌}

reads : (n : ℕ) (r : Option ℕ) → n < 2 ^ 64 → IsNumberOf (decimal n) r → r ≡ Some n
reads n None lt h = absurd (h n lt refl)
reads n (Some m) lt h = ap (λ z. Some z) (sym (decimal_injective n m lt h.0 h.1))

pub number-of : (n : ℕ) → n < 2 ^ 64 → number_of (decimal n) ≡ Some n
number-of n lt = reads n (number_of (decimal n)) lt (is-number (decimal n))

pub number-back : (limit n : ℕ) → limit ≤ 2 ^ 64 → nat_lt n limit ≡ true → number_below limit (decimal n) ≡ Some n
number-back limit n most h =
    let small = ltb-true n limit h in
    let lt : n < 2 ^ 64 = omega (arith, small, most) in
    ap (below limit) (number-of n lt) ∙ rw h refl

pub key-is : (key : List ℕ) → is_key key ≡ true → is_short key ≡ true → is_short_key key ≡ true
key-is key k s = and_from (is_short key) (is_key key) s k

proper-by : (value : List ℕ) (b : Bool) → is_repeated value ≡ b → nat_le (length value) 2097152 ≡ true → is_proper (is_starred (value_text value)) value ≡ true
proper-by value true e h = rw (e, e) refl
proper-by value false e h = rw (e, e, h) refl

pub value-back : (value : List ℕ) → is_shown value ≡ true → proper_value (value_text value) ≡ Some value
value-back value h =
    let t = and_parts (list_all is_visible value) (nat_le (length value) 2097152) h in
    ap (λ o. o >>= (λ value'. if is_proper (is_starred (value_text value)) value' then Some value' else None)) (reads-back value t.0 (leb-true _ _ t.1))
    ∙ rw (proper-by value (is_repeated value) refl t.1) refl
