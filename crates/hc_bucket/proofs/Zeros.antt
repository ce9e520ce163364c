-- Bytes joined by `or` are zero where each of them is.
use Rattle.std.proofs.Common.{◌≡◌, ℕ, zero, suc, ◌≤◌, Bool, true, false, ◌==◌, ◌&&◌, List, [], ◌∷◌, refl, sym, ap, ◌∙◌, arith, bit_or, length, drop}
use Rattle.std.specs.Prelude.{fold}
use Rattle.std.specs.List.{list_all}
use Rattle.std.proofs.lemmas.List.{drop_all}
use Rattle.std.proofs.lemmas.Nat.{le_or_l}
use Rattle.std.proofs.lemmas.Grind.{common_steps}

positive : (n : ℕ) → 1 ≤ n → (n == 0) ≡ false
positive n h = grind (arith, common_steps)

or_is_zero : (a b : ℕ) → (bit_or a b == 0) ≡ (a == 0 && b == 0)
or_is_zero zero b = refl
or_is_zero (suc a) b = positive (bit_or (suc a) b) (omega (arith, le_or_l (suc a) b)) ∙ sym (ap (λ (x : Bool). x && (b == 0)) (positive (suc a) (omega arith)))

and_assoc : (x y z : Bool) → ((x && y) && z) ≡ (x && (y && z))
and_assoc true y z = refl
and_assoc false y z = refl

and_true : (x : Bool) → (x && true) ≡ x
and_true true = refl
and_true false = refl

pub or_of_all : (seen : ℕ) (bytes : List ℕ) → (fold bit_or seen bytes == 0) ≡ (seen == 0 && list_all (λ byte. byte == 0) bytes)
or_of_all seen [] = sym (and_true (seen == 0))
or_of_all seen (byte ∷ bytes) =
    or_of_all (bit_or seen byte) bytes ∙ ap (λ (x : Bool). x && list_all (λ byte. byte == 0) bytes) (or_is_zero seen byte) ∙ and_assoc (seen == 0) (byte == 0) (list_all (λ byte. byte == 0) bytes)

-- what a loop has joined at its end tells whether all bytes are zero
pub all_joined : (bytes : List ℕ) (i seen : ℕ) → length bytes ≤ i → fold bit_or seen (drop i bytes) ≡ fold bit_or 0 bytes → (seen == 0) ≡ list_all (λ byte. byte == 0) bytes
all_joined bytes i seen le joined =
    let none : drop i bytes ≡ [] = drop_all i bytes le in
    let whole : seen ≡ fold bit_or 0 bytes = ap (fold bit_or seen) (sym none) ∙ joined in
    ap (λ (n : ℕ). n == 0) whole ∙ or_of_all 0 bytes
