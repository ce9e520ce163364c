-- A value is read as it is printed.
use Rattle.std.proofs.Common.{◌≡◌, ℕ, ◌-◌, ◌^◌, ◌<◌, ◌≤◌, ◌==◌, nat_le, Bool, true, false, not, ◌&&◌, List, [], ◌∷◌, ◌++◌, length, take, get_or, replicate, Option, Some, None, refl, sym, ◌∙◌, ap, arith, if◌then◌else◌, length-append}
use Rattle.std.proofs.lemmas.Bool.{eqb-true}
use Rattle.std.proofs.lemmas.Bool.Decides.{nat_tests}
use Rattle.std.proofs.lemmas.Fmt.{decimal_injective}
use Rattle.std.proofs.Math.Seq.{get_or-append_seam, take-append_seam}
use Rattle.std.specs.Char.{is_ascii_digit}
use Rattle.std.specs.List.{list_all}
use Rattle.std.specs.Fmt.{decimal}
use Rattle.hc_trace_text.specs.Numbers.{number_of, IsNumberOf, is_visible, repeated_of, value_of}
use Rattle.hc_trace_text.specs.Texts.{is_repeated, first_of, ReadsBack}
use Rattle.hc_trace_text.proofs.Decimals.{is-number}

both : (a b : Bool) → (a && b) ≡ true → (a ≡ true) × (b ≡ true)
both true b e = (refl, e)
both false b e = cc

isnt : (b : Bool) → not b ≡ true → b ≡ false
isnt true e = cc
isnt false e = refl

reads-number : (n : ℕ) (r : Option ℕ) → n < 2 ^ 64 → IsNumberOf (decimal n) r → r ≡ Some n
reads-number n None lt h = absurd (h n lt refl)
reads-number n (Some m) lt h = ap (λ z. Some z) (sym (decimal_injective n m lt h.0 h.1))

all-same : (c : ℕ) (value : List ℕ) → list_all (λ b. b == c) value ≡ true → value ≡ replicate (length value) c
all-same c [] h = refl
all-same c (b ∷ value) h =
    let t = both (b == c) (list_all (λ b. b == c) value) h in
    let e = eqb-true b c t.0 in
    let f = all-same c value t.1 in
    ap (λ z. z ∷ value) e ∙ ap (λ z. c ∷ z) f

reads-repeated : (n c : ℕ) → 1 ≤ n → n ≤ 2097152 → is_visible c ≡ true → is_ascii_digit c ≡ false → repeated_of (decimal n ++ c ∷ []) ≡ Some (replicate n c)
reads-repeated n c low high seen digit =
    let text = decimal n ++ c ∷ [] in
    let l : length text - 1 ≡ length (decimal n) = omega (arith, length-append (decimal n) (c ∷ [])) in
    let at : get_or text (length text - 1) 0 ≡ c = ap (λ k. get_or text k 0) l ∙ get_or-append_seam (decimal n) c [] 0 in
    let front : take (length text - 1) text ≡ decimal n = ap (λ k. take k text) l ∙ take-append_seam (decimal n) (c ∷ []) in
    let number : number_of (decimal n) ≡ Some n = reads-number n (number_of (decimal n)) (omega arith) (is-number (decimal n)) in
    let fits : (nat_le 1 n && nat_le n 2097152) ≡ true = grind (arith, nat_tests) in
    rw (at, front, number, seen, digit, fits) refl

from-test : (c : ℕ) (value : List ℕ) (b : Bool) → is_repeated (c ∷ value) ≡ b → list_all is_visible (c ∷ value) ≡ true → length (c ∷ value) ≤ 2097152
    → value_of (if b then 42 ∷ decimal (length (c ∷ value)) ++ first_of (c ∷ value) else 61 ∷ c ∷ value) ≡ Some (c ∷ value)
from-test c value true e seen high =
    let some : 1 ≤ length (c ∷ value) = omega arith in
    let t = both (nat_le 3 (length value) && not (is_ascii_digit c)) (list_all (λ b. b == c) value) e in
    let s = both (is_visible c) (list_all is_visible value) seen in
    let d : is_ascii_digit c ≡ false = isnt _ (both _ _ t.0).1 in
    reads-repeated (length (c ∷ value)) c some high s.0 d ∙ ap (λ z. Some (c ∷ z)) (sym (all-same c value t.1))
from-test c value false e seen high = rw seen refl

pub reads-back : (value : List ℕ) → ReadsBack value
reads-back [] = λ seen high. refl
reads-back (c ∷ value) = λ seen high. from-test c value (is_repeated (c ∷ value)) refl seen high
