-- A number in a list in which none is twice, and the list without it.
use Rattle.std.proofs.Common.{◌≡◌, ℕ, suc, ◌+◌, ◌<◌, ◌≤◌, Bool, true, false, List, [], ◌∷◌, ◌++◌, length, Some, None, cond, not, refl, sym, ap, subst, arith, ◌∙◌}
use Rattle.std.proofs.Math.ListN.{drop_of_length-le}
use Rattle.std.proofs.lemmas.Bool.{ltb-true, ltb-false}
use Rattle.std.proofs.lemmas.Cmp.{nat_eq_equiv}
use Rattle.std.proofs.lemmas.List.{take_all, append-nil}
use Rattle.std.proofs.lemmas.Map.Keys.{IsDistinct-push}
use Rattle.std.specs.List.{AllByRecursion, IsDistinct, list_any, position, position_or_len, remove}
use Rattle.std.specs.Prelude.{if◌then◌else◌, ◌==◌, nat_eq, nat_lt}
use Rattle.hc_engines.specs.large.Numbers.{is_in, minus}
use Rattle.hc_engines.specs.large.Region.{Status, Sealed, is_sealed}
use Rattle.hc_engines.proofs.large.Lists.{minus_none}

-- a number that differs from each isn't among them
apart : (x r : ℕ) (rs : List ℕ) → (x == r) ≡ true → AllByRecursion (λ y. nat_eq x y ≡ false) rs → is_in r rs ≡ false
apart x r [] e h = refl
apart x r (y ∷ ys) e h = grind (arith, e, h.0, apart x r ys e h.1)

-- where the number stands first, or behind all of them
abbrev first : ℕ → List ℕ → ℕ
first r rs = position_or_len (λ x. x == r) rs

-- what is taken out there is the number alone
removed : (r : ℕ) (rs : List ℕ) → IsDistinct nat_eq rs → remove rs (first r rs) ≡ minus r rs
unfolding IsDistinct
removed r [] d = refl
removed r (x ∷ xs) d = by (removed r xs d.1) (x == r) refl
  where
    by : remove xs (first r xs) ≡ minus r xs → (t : Bool) → (x == r) ≡ t → remove (x ∷ xs) (cond (not t) (1 + first r xs) 0) ≡ (if t then minus r xs else x ∷ minus r xs)
    by behind true e = sym (minus_none r xs (apart x r xs e d.0))
    by behind false e = let next : 1 + first r xs ≡ suc (first r xs) = omega arith in rw next (ap (λ ys. x ∷ ys) behind)

pub stands_at : (r n : ℕ) (rs : List ℕ) → IsDistinct nat_eq rs → position (λ x. x == r) rs ≡ Some n → (n < length rs) × (remove rs n ≡ minus r rs)
stands_at r n rs d e = by (nat_lt (first r rs) (length rs)) refl e
  where
    by : (t : Bool) → nat_lt (first r rs) (length rs) ≡ t → cond t (Some (first r rs)) None ≡ Some n → (n < length rs) × (remove rs n ≡ minus r rs)
    by true t e =
        let same : first r rs ≡ n = cc in
        subst (λ k. (k < length rs) × (remove rs k ≡ minus r rs)) same (ltb-true _ _ t, removed r rs d)
    by false t e = absurd (cc)

pub stands_nowhere : (r : ℕ) (rs : List ℕ) → IsDistinct nat_eq rs → position (λ x. x == r) rs ≡ None → rs ≡ minus r rs
stands_nowhere r rs d e = by (nat_lt (first r rs) (length rs)) refl e
  where
    by : (t : Bool) → nat_lt (first r rs) (length rs) ≡ t → cond t (Some (first r rs)) None ≡ None → rs ≡ minus r rs
    by true t e = absurd (cc)
    by false t e =
        let past : length rs ≤ first r rs = ltb-false _ _ t in
        let all : remove rs (first r rs) ≡ rs = rw (take_all (first r rs) rs past, drop_of_length-le rs {i = suc (first r rs)} (omega (arith, past)), append-nil) refl in
        sym all ∙ removed r rs d

-- a region that isn't sealed stands in no list of sealed ones
pub unlisted : (r : ℕ) (rs : List ℕ) (status : Status) → (is_in r rs ≡ true → status ≡ Sealed) → is_sealed status ≡ false → is_in r rs ≡ false
unlisted r rs status h n = go (is_in r rs) h
  where
    go : (t : Bool) → (t ≡ true → status ≡ Sealed) → t ≡ false
    go true h = let same : is_sealed status ≡ true = ap is_sealed (h refl) in absurd (cc)
    go false h = refl

-- ---- lists that stay distinct

all-minus : (P : ℕ → Type 0) (r : ℕ) (rs : List ℕ) → AllByRecursion P rs → AllByRecursion P (minus r rs)
all-minus P r [] h = tt
all-minus P r (x ∷ xs) h = by (x == r) (all-minus P r xs h.1)
  where
    by : (t : Bool) → AllByRecursion P (minus r xs) → AllByRecursion P (if t then minus r xs else x ∷ minus r xs)
    by true rest = rest
    by false rest = (h.0, rest)

pub minus_distinct : (r : ℕ) (rs : List ℕ) → IsDistinct nat_eq rs → IsDistinct nat_eq (minus r rs)
unfolding IsDistinct
minus_distinct r [] d = tt
minus_distinct r (x ∷ xs) d = by (x == r) (minus_distinct r xs d.1)
  where
    by : (t : Bool) → IsDistinct nat_eq (minus r xs) → IsDistinct nat_eq (if t then minus r xs else x ∷ minus r xs)
    by true rest = rest
    by false rest = (all-minus (λ y. nat_eq x y ≡ false) r xs d.0, rest)

any_in : (r : ℕ) (rs : List ℕ) → list_any (nat_eq r) rs ≡ is_in r rs
any_in r [] = refl
any_in r (x ∷ xs) = grind (arith, any_in r xs)

pub push_distinct : (r : ℕ) (rs : List ℕ) → IsDistinct nat_eq rs → is_in r rs ≡ false → IsDistinct nat_eq (rs ++ r ∷ [])
push_distinct r rs d h = IsDistinct-push nat_eq_equiv rs r d (any_in r rs ∙ h)
