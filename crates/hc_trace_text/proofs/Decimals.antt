-- A number is read as it is printed, and nothing else is read.
use Rattle.std.proofs.Common.{◌≡◌, ℕ, zero, suc, ◌+◌, ◌-◌, ◌*◌, ◌^◌, ◌<◌, ◌≤◌, ◌==◌, nat_lt, Bool, true, false, ◌&&◌, List, [], ◌∷◌, length, get_or, Option, Some, None, refl, sym, ◌∙◌, ap, arith, if◌then◌else◌, rules}
use Rattle.std.proofs.lemmas.Bool.{and_from, ltb-true, lt-ltb, eqb-true}
use Rattle.std.proofs.lemmas.Bool.Decides.{nat_tests}
use Rattle.std.proofs.lemmas.Fmt.{decimal_digit, decimal-digits_value, digits_decimal, digits_value-decimal, decimal_nonempty, first_decimal}
use Rattle.std.proofs.lemmas.Str.Parse.{IsNumeralModel, numerals_by_fold}
use Rattle.std.specs.Char.{is_ascii_digit}
use Rattle.std.specs.Str.{all_ascii_digits}
use Rattle.std.specs.Fmt.{decimal}
use Rattle.hc_trace_text.specs.Numbers.{digits_after, number_of, IsNumberOf}

abbrev value_after : ℕ → List ℕ → ℕ
value_after n [] = n
value_after n (c ∷ text) = value_after (n * 10 + (c - 48)) text

own : IsNumeralModel (λ ds. all_ascii_digits ds ≡ true) (value_after 0)
own = numerals_by_fold _ (search rules) value_after (search rules)

-- what digits_after reads is digits, and their value
record Reads (m : ℕ) (text : List ℕ) (n : ℕ) : Type 0 where
  digits : all_ascii_digits text ≡ true
  value : value_after m text ≡ n
  small : n < 2 ^ 64

pub true-is-not-false : true ≡ false → ⊥
true-is-not-false e = cc

none-is-not-some : {n : ℕ} → ◌≡◌ {A = Option ℕ} None (Some n) → ⊥
none-is-not-some e = cc

-- a choice that came out as some number passed its test
passes : (b : Bool) (r : Option ℕ) (n : ℕ) → (if b then r else None) ≡ Some n → (b ≡ true) × (r ≡ Some n)
passes true r n e = (refl, e)
passes false r n e = absurd (none-is-not-some e)

-- a choice that came out as some number failed its test
fails : (b : Bool) (r : Option ℕ) (n : ℕ) → (if b then None else r) ≡ Some n → r ≡ Some n
fails true r n e = absurd (none-is-not-some e)
fails false r n e = e

pub both : (a b : Bool) → (a && b) ≡ true → (a ≡ true) × (b ≡ true)
both true b e = (refl, e)
both false b e = cc

reads : (m : ℕ) (text : List ℕ) (n : ℕ) → m < 2 ^ 64 → digits_after m text ≡ Some n → Reads m text n
reads m [] n h e = let same : m ≡ n = cc in record { digits = refl; value = same; small = omega arith }
reads m (c ∷ text) n h e =
    let p = passes _ (digits_after (m * 10 + (c - 48)) text) n e in
    let t = both _ _ p.0 in
    let r = reads (m * 10 + (c - 48)) text n (ltb-true _ _ t.1) p.1 in
    record { digits = and_from _ _ t.0 r.digits; value = r.value; small = r.small }

least : (m : ℕ) (text : List ℕ) → m ≤ value_after m text
least m [] = omega arith
least m (c ∷ text) = omega (arith, least (m * 10 + (c - 48)) text)

read-back : (m : ℕ) (text : List ℕ) → all_ascii_digits text ≡ true → value_after m text < 2 ^ 64 → digits_after m text ≡ Some (value_after m text)
read-back m [] d s = refl
read-back m (c ∷ text) d s =
    let t = both (is_ascii_digit c) (all_ascii_digits text) d in
    let l = least (m * 10 + (c - 48)) text in
    let lt : nat_lt (m * 10 + (c - 48)) (2 ^ 64) ≡ true = lt-ltb _ _ (omega (arith, l, s)) in
    rw (and_from _ _ t.0 lt) (read-back (m * 10 + (c - 48)) text t.1 s)

-- digits of which no zero leads
finds : (text : List ℕ) (r : Option ℕ) → digits_after 0 text ≡ r → 0 < length text → (get_or text 0 0 ≡ 48 → length text ≡ 1) → IsNumberOf text r
finds text None e some alone =
    λ n h is.
    let d : all_ascii_digits text ≡ true = rw is (digits_decimal own n h) in
    let v : value_after 0 text ≡ n = rw is (digits_value-decimal own n h) in
    none-is-not-some (sym e ∙ read-back 0 text d (omega (arith, v, h)) ∙ ap (λ z. Some z) v)
finds text (Some n) e some alone =
    let r = reads 0 text n (omega arith) e in
    let small : value_after 0 text < 2 ^ 64 = omega (arith, r.value, r.small) in
    (r.small, sym (decimal-digits_value own text r.digits some alone small) ∙ ap decimal r.value)

-- a zero that leads others isn't printed
leading-zero : (c : ℕ) (text : List ℕ) (n : ℕ) → c ≡ 48 → 0 < length text → n < 2 ^ 64 → c ∷ text ≡ decimal n → ⊥
leading-zero c text zero z more h is =
    let one : c ∷ text ≡ 48 ∷ [] = is ∙ decimal_digit 0 (omega arith) in
    let l : text ≡ [] = cc in
    omega (arith, more, ap length l)
leading-zero c text (suc n) z more h is =
    let f = first_decimal (suc n) (omega arith) h in
    let g : 48 < c = rw (← is) at f in
    omega (arith, g, z)

from-test : (c : ℕ) (text : List ℕ) (b : Bool) → (c == 48 && nat_lt 0 (length text)) ≡ b → IsNumberOf (c ∷ text) (if b then None else digits_after 0 (c ∷ text))
from-test c text true e = λ n h is. let t = both _ _ e in leading-zero c text n (eqb-true _ _ t.0) (ltb-true _ _ t.1) h is
from-test c text false e = finds (c ∷ text) (digits_after 0 (c ∷ text)) refl (omega arith) (λ z. grind (arith, nat_tests, e, z))

pub is-number : (text : List ℕ) → IsNumberOf text (number_of text)
is-number [] = λ n h is. omega (arith, decimal_nonempty n h, ap length is)
is-number (c ∷ text) = from-test c text _ refl

-- a number is digits
pub number-digits : (text : List ℕ) (n : ℕ) → number_of text ≡ Some n → all_ascii_digits text ≡ true
number-digits [] n e = absurd (none-is-not-some e)
number-digits (c ∷ text) n e = (reads 0 (c ∷ text) n (omega arith) (fails (c == 48 && nat_lt 0 (length text)) _ n e)).digits
