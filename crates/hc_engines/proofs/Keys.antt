-- What a test of two keys tells.
use Rattle.std.proofs.Common.{◌≡◌, ℕ, Bool, true, false, List, refl, sym, inl, inr, nat_eq}
use Rattle.std.specs.Prelude.{◌⊎◌}
use Rattle.std.specs.Cmp.Lexicographic.{pointwise, same_text, nat_list_eq_equiv}

pub same-true : (a b : List ℕ) → pointwise nat_eq a b ≡ true → a ≡ b
same-true a b h = same_text a b (sym h)

pub same-refl : (a : List ℕ) → pointwise nat_eq a a ≡ true
same-refl a = nat_list_eq_equiv.refl a

pub same-swap : (a b : List ℕ) → pointwise nat_eq a b ≡ pointwise nat_eq b a
same-swap a b = nat_list_eq_equiv.symm a b

-- a test of two keys: what each answer tells
pub same-tells : (a b : List ℕ) → (pointwise nat_eq a b ≡ pointwise nat_eq b a) × (((pointwise nat_eq a b ≡ true) × (a ≡ b)) ⊎ (pointwise nat_eq a b ≡ false))
same-tells a b = (same-swap a b, cases (pointwise nat_eq a b) refl)
  where
    cases : (t : Bool) → pointwise nat_eq a b ≡ t → ((pointwise nat_eq a b ≡ true) × (a ≡ b)) ⊎ (pointwise nat_eq a b ≡ false)
    cases true e = inl (e, same-true a b e)
    cases false e = inr e

pub ruleset key_tests = (same-tells, same-refl)
